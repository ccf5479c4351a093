-- The cache is spelled on lines, and its words are few.
use Rattle.vyrd_base.proofs.Prelude.{◌≡◌, ℕ, ◌≤◌, true, not, length, Some, refl, arith, find}
use Rattle.vyrd_base.proofs.Prelude.{slice_get, bytes_eq, longest_method, cache, never_commits}
use Rattle.vyrd_base.proofs.Prelude.{always_commits, is_plain_field}
use Rattle.vyrd_base.specs.declared.cache.CacheMethod.{CacheMethod}
use Rattle.vyrd_base.specs.declared.cache.CacheMethod.TheVariants.{Write, Flush, Evict, Read}
use Rattle.vyrd_base.proofs.Spelled.{IsSpelled}

plain : (m : CacheMethod) → is_plain_field (cache.called m) ≡ true
plain m = grind arith

short : (m : CacheMethod) → length (cache.called m) ≤ longest_method
short m = grind arith

found : (m : CacheMethod) → find (λ x. bytes_eq (cache.called x) (cache.called m)) cache.methods
    ≡ Some m
found m = grind arith

abbrev place : CacheMethod → ℕ
place Write = 0
place Flush = 1
place Evict = 2
place Read = 3

listed : (m : CacheMethod) → slice_get cache.methods (place m) ≡ Some m
listed m = grind arith

some_arguments : (m : CacheMethod) → 1 ≤ cache.arity m
some_arguments m = grind arith

few_arguments : (m : CacheMethod) → cache.arity m ≤ 3
few_arguments m = grind arith

once_or_never : (m : CacheMethod) → always_commits (cache.commits m)
    ≡ not (never_commits (cache.commits m))
once_or_never m = grind arith

pub cache_is : IsSpelled cache
cache_is = record {
  plain = plain;
  short = short;
  found = found;
  place = place;
  listed = listed;
  some_arguments = some_arguments;
  few_arguments = few_arguments;
  once_or_never = once_or_never;
  plain_name = refl;
  short_name = omega arith;
  few_words = λ size low. omega (arith, low);
}
