-- The keys that a step of a built-in structure can change are among those that its call looks at.
use Rattle.vyrd_follow.proofs.Prelude.{◌≡◌, ℕ, Bool, true, false, cond, ◌||◌, [], ◌∷◌, Option, Some}
use Rattle.vyrd_follow.proofs.Prelude.{None, refl, ap, ◌∙◌, sym, ◌==◌, nat_lt, option_map}
use Rattle.vyrd_follow.proofs.Prelude.{same_Some, Header, Amounts, amount_of, rules_of, same_of}
use Rattle.vyrd_base.specs.declared.subject.Args.{Args}
use Rattle.vyrd_base.specs.declared.subject.Method.{Method}
use Rattle.vyrd_base.specs.declared.subject.Method.TheVariants.{OwnNever, OwnAtMostOnce, OwnOnce}
use Rattle.vyrd_base.specs.declared.subject.Method.TheVariants.{Multiset as OfMultiset}
use Rattle.vyrd_base.specs.declared.subject.Method.TheVariants.{Cache as OfCache, Tree as OfTree}
use Rattle.vyrd_base.specs.declared.subject.Method.TheVariants.{Buffers as OfBuffers}
use Rattle.vyrd_base.specs.declared.multiset.MultisetMethod.TheVariants as multiset
use Rattle.vyrd_base.specs.declared.cache.CacheMethod.TheVariants as cache
use Rattle.vyrd_base.specs.declared.tree.TreeMethod.TheVariants as tree
use Rattle.vyrd_base.specs.declared.buffers.BuffersMethod.TheVariants as buffers
use Rattle.vyrd_base.specs.Specification.{next_state}
use Rattle.vyrd_base.specs.States.{showing, State}
use Rattle.vyrd_spec.specs.Touching.{touched_by, is_touched}
use Rattle.vyrd_spec.proofs.StepMeets.{untouched}
use Rattle.vyrd_states.specs.Looks.{keys_looked_at, pair_keys}

-- a key that neither of a pair is
twice_false : (p : Bool) → (p || false) ≡ false → (p || (p || false)) ≡ false
twice_false true e = e
twice_false false e = e

neither_key : (x y key : ℕ) → is_touched (pair_keys x y) key ≡ false
    → is_touched (x ∷ y ∷ []) key ≡ false
neither_key x y key other = by_same (x == y) refl other
  where
    by_same : (b : Bool) → (x == y) ≡ b → is_touched (cond b (x ∷ []) (x ∷ y ∷ [])) key ≡ false
        → is_touched (x ∷ y ∷ []) key ≡ false
    by_same true same e = cc (same_of x y same, twice_false (x == key) e)
    by_same false differ e = e

first_false : (p q : Bool) → (p || (q || false)) ≡ false → (p || false) ≡ false
first_false true q e = e
first_false false q e = refl

not_the_first : (x y key : ℕ) → is_touched (pair_keys x y) key ≡ false
    → is_touched (x ∷ []) key ≡ false
not_the_first x y key other = first_false _ (y == key) (neither_key x y _ other)

not_cut : (b : Bool) (x key : ℕ) → is_touched (x ∷ []) key ≡ false
    → is_touched (cond b (x ∷ []) []) key ≡ false
not_cut true x key other = other
not_cut false x key other = refl

-- a key that a call doesn't look at is none that its step touches
not_touched : (method : Method) (args : Args) (key : ℕ)
    → is_touched (keys_looked_at method args) key ≡ false
    → is_touched (touched_by method args) key ≡ false
not_touched (OfMultiset multiset.Insert) args key other = other
not_touched (OfMultiset multiset.InsertPair) args key other = neither_key args.a args.b key other
not_touched (OfMultiset multiset.Delete) args key other = other
not_touched (OfMultiset multiset.Lookup) args key other = refl
not_touched (OfCache cache.Read) args key other = refl
not_touched (OfCache cache.Write) args key other = other
not_touched (OfCache cache.Flush) args key other = refl
not_touched (OfCache cache.Evict) args key other = refl
not_touched (OfTree tree.Insert) args key other = other
not_touched (OfTree tree.Delete) args key other = other
not_touched (OfTree tree.Lookup) args key other = refl
not_touched (OfBuffers buffers.Append) args key other = other
not_touched (OfBuffers buffers.AppendFrom) args key other = not_the_first args.a args.b key other
not_touched (OfBuffers buffers.Cut) args key other = not_cut (nat_lt args.b 7) args.a key other
not_touched (OfBuffers buffers.Length) args key other = refl
not_touched (OfBuffers buffers.Read) args key other = refl
not_touched (OwnNever i) args key other = refl
not_touched (OwnAtMostOnce i) args key other = refl
not_touched (OwnOnce i) args key other = refl

pub other_key_stays : (h : Header) (method : Method) (args : Args) (reply key : ℕ)
    (before after : State) → (rules_of h).next method args reply before ≡ Some after
    → is_touched (keys_looked_at method args) key ≡ false
    → amount_of after.shown key ≡ amount_of before.shown key
other_key_stays h method args reply key before after next other =
    by_state (next_state method args reply before.shown) refl next
  where
    by_state : (o : Option Amounts) → next_state method args reply before.shown ≡ o
        → option_map showing o ≡ Some after
        → amount_of after.shown key ≡ amount_of before.shown key
    by_state None none e = cc
    by_state (Some t) some e =
        ap (λ s. amount_of s.shown key) (sym (same_Some _ _ e))
        ∙ untouched method args reply key before.shown t some (not_touched method args key other)
