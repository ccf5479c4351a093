-- The keys whose amount a step can change.
use Rattle.std.specs.Prelude.{◌≡◌, ◌≢◌, ℕ, Bool, ◌==◌, List, [], ◌∷◌, Option, Some}
use Rattle.std.specs.List.{list_any}
use Rattle.vyrd_base.specs.declared.subject.Method.{Method}
use Rattle.vyrd_base.specs.declared.subject.Method.TheVariants.{Multiset as OfMultiset}
use Rattle.vyrd_base.specs.declared.subject.Method.TheVariants.{Cache as OfCache, Tree as OfTree}
use Rattle.vyrd_base.specs.declared.subject.Method.TheVariants.{Buffers as OfBuffers}
use Rattle.vyrd_base.specs.declared.subject.Method.TheVariants.{OwnNever, OwnAtMostOnce, OwnOnce}
use Rattle.vyrd_base.specs.declared.subject.Args.{Args}
use Rattle.vyrd_base.specs.Amounts.{Amounts, IsAmounts, amount_of, with_amount}
use Rattle.vyrd_spec.specs.Touching.Multiset as multiset
use Rattle.vyrd_spec.specs.Touching.Cache as cache
use Rattle.vyrd_spec.specs.Touching.Tree as tree
use Rattle.vyrd_spec.specs.Touching.Buffers as buffers
pub mod Multiset
pub mod Cache
pub mod Tree
pub mod Buffers

-- the keys of a call; without its specification no call of the user's own steps
abbrev pub touched_by : Method → Args → List ℕ
touched_by (OfMultiset method) args = multiset.touches method args
touched_by (OfCache method) args = cache.touches method args
touched_by (OfTree method) args = tree.touches method args
touched_by (OfBuffers method) args = buffers.touches method args
touched_by (OwnNever i) args = []
touched_by (OwnAtMostOnce i) args = []
touched_by (OwnOnce i) args = []

-- whether a key is one of them
abbrev pub is_touched : List ℕ → ℕ → Bool
is_touched keys key = list_any (λ k. k == key) keys

-- the amounts, once these keys have their amounts in other amounts
abbrev pub with_touched : List ℕ → Amounts → Amounts → Amounts
with_touched [] new old = old
with_touched (k ∷ ks) new old = with_touched ks new (with_amount old k (amount_of new k))

-- some step of a call, by what a reply makes of a state, changes the amount of the key
pub record CanChange (next : ℕ → Amounts → Option Amounts) (key : ℕ) : Type 0 where
  pub reply : ℕ
  pub before : Amounts
  pub after : Amounts
  pub formed : IsAmounts before
  pub allowed : next reply before ≡ Some after
  pub changed : amount_of after key ≢ amount_of before key
