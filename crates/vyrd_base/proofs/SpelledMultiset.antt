-- The multiset is spelled on lines, and its words are few.
use Rattle.vyrd_base.proofs.Prelude.{◌≡◌, ℕ, ◌≤◌, true, not, length, Some, refl, arith, find}
use Rattle.vyrd_base.proofs.Prelude.{slice_get, bytes_eq, longest_method, multiset, never_commits}
use Rattle.vyrd_base.proofs.Prelude.{always_commits, is_plain_field}
use Rattle.vyrd_base.specs.declared.multiset.MultisetMethod.{MultisetMethod}
use Rattle.vyrd_base.specs.declared.multiset.MultisetMethod.TheVariants.{Insert, InsertPair, Delete}
use Rattle.vyrd_base.specs.declared.multiset.MultisetMethod.TheVariants.{Lookup}
use Rattle.vyrd_base.proofs.Spelled.{IsSpelled}

plain : (m : MultisetMethod) → is_plain_field (multiset.called m) ≡ true
plain m = grind arith

short : (m : MultisetMethod) → length (multiset.called m) ≤ longest_method
short m = grind arith

found : (m : MultisetMethod) → find (λ x. bytes_eq (multiset.called x) (multiset.called m))
    multiset.methods ≡ Some m
found m = grind arith

abbrev place : MultisetMethod → ℕ
place Insert = 0
place InsertPair = 1
place Delete = 2
place Lookup = 3

listed : (m : MultisetMethod) → slice_get multiset.methods (place m) ≡ Some m
listed m = grind arith

some_arguments : (m : MultisetMethod) → 1 ≤ multiset.arity m
some_arguments m = grind arith

few_arguments : (m : MultisetMethod) → multiset.arity m ≤ 3
few_arguments m = grind arith

once_or_never : (m : MultisetMethod) → always_commits (multiset.commits m)
    ≡ not (never_commits (multiset.commits m))
once_or_never m = grind arith

pub multiset_is : IsSpelled multiset
multiset_is = record {
  plain = plain;
  short = short;
  found = found;
  place = place;
  listed = listed;
  some_arguments = some_arguments;
  few_arguments = few_arguments;
  once_or_never = once_or_never;
  plain_name = refl;
  short_name = omega arith;
  few_words = λ size low. omega (arith, low);
}
