-- What the trait asks of a step, of the specifications that are built in: the touched keys, and the
-- answers that stay.
use Rattle.vyrd_spec.proofs.Prelude
use Prelude.{◌≡◌, ℕ, Bool, true, false, cond, ◌||◌, List, [], ◌∷◌, Some, refl, ap, ◌∙◌, sym, ◌==◌}
use Prelude.{Method, Args, Amounts, IsAmounts, amount_of, with_amount, amount_of-with_amount}
use Prelude.{IsAmounts-with_amount, same_amounts, same_of, flipped, same_number}
use Rattle.vyrd_base.specs.declared.subject.Method.TheVariants.{OwnNever, OwnAtMostOnce, OwnOnce}
use Rattle.vyrd_base.specs.declared.subject.Method.TheVariants.{Multiset as OfMultiset}
use Rattle.vyrd_base.specs.declared.subject.Method.TheVariants.{Cache as OfCache, Tree as OfTree}
use Rattle.vyrd_base.specs.declared.subject.Method.TheVariants.{Buffers as OfBuffers}
use Rattle.vyrd_base.specs.Specification.{next_state, answer_in}
use Rattle.vyrd_spec.specs.Touching.{touched_by, is_touched, with_touched, CanChange}
use Rattle.vyrd_spec.proofs.MultisetSteps.{multiset_steps}
use Rattle.vyrd_spec.proofs.CacheSteps.{cache_steps}
use Rattle.vyrd_spec.proofs.TreeSteps.{tree_steps}
use Rattle.vyrd_spec.proofs.BufferSteps.{buffers_steps}

-- a step leaves amounts
pub next_state-formed : (method : Method) (args : Args) (reply : ℕ) (s t : Amounts) → IsAmounts s
    → next_state method args reply s ≡ Some t → IsAmounts t
next_state-formed (OfMultiset m) = multiset_steps.formed m
next_state-formed (OfCache m) = cache_steps.formed m
next_state-formed (OfTree m) = tree_steps.formed m
next_state-formed (OfBuffers m) = buffers_steps.formed m
next_state-formed (OwnNever i) = λ args reply s t formed e. cc
next_state-formed (OwnAtMostOnce i) = λ args reply s t formed e. cc
next_state-formed (OwnOnce i) = λ args reply s t formed e. cc

pub untouched : (method : Method) (args : Args) (reply key : ℕ) (s t : Amounts)
    → next_state method args reply s ≡ Some t → is_touched (touched_by method args) key ≡ false
    → amount_of t key ≡ amount_of s key
untouched (OfMultiset m) = multiset_steps.untouched m
untouched (OfCache m) = cache_steps.untouched m
untouched (OfTree m) = tree_steps.untouched m
untouched (OfBuffers m) = buffers_steps.untouched m
untouched (OwnNever i) = λ args reply key s t e outside. cc
untouched (OwnAtMostOnce i) = λ args reply key s t e outside. cc
untouched (OwnOnce i) = λ args reply key s t e outside. cc

answer_by_amount : (s t : Amounts) (method : Method) (args : Args)
    → amount_of t args.a ≡ amount_of s args.a → answer_in t method args ≡ answer_in s method args
answer_by_amount s t (OfMultiset m) = multiset_steps.answers s t m
answer_by_amount s t (OfCache m) = cache_steps.answers s t m
answer_by_amount s t (OfTree m) = tree_steps.answers s t m
answer_by_amount s t (OfBuffers m) = buffers_steps.answers s t m
answer_by_amount s t (OwnNever i) = λ args e. refl
answer_by_amount s t (OwnAtMostOnce i) = λ args e. refl
answer_by_amount s t (OwnOnce i) = λ args e. refl

pub touched_changes : (method : Method) (args : Args) (key : ℕ)
    → is_touched (touched_by method args) key ≡ true → CanChange (next_state method args) key
touched_changes (OfMultiset m) = multiset_steps.changes m
touched_changes (OfCache m) = cache_steps.changes m
touched_changes (OfTree m) = tree_steps.changes m
touched_changes (OfBuffers m) = buffers_steps.changes m
touched_changes (OwnNever i) = λ args key e. cc
touched_changes (OwnAtMostOnce i) = λ args key e. cc
touched_changes (OwnOnce i) = λ args key e. cc

-- the amounts with those of some keys in other amounts
pub with_formed : (ks : List ℕ) (t s : Amounts) → IsAmounts s → IsAmounts (with_touched ks t s)
with_formed [] t s is = is
with_formed (k ∷ ks) t s is = with_formed ks t (with_amount s k _) (IsAmounts-with_amount s k _ is)

-- one key with its amount in other amounts, which another key hasn't changed
key_amount : (k : ℕ) (t s : Amounts) (q : ℕ)
    → amount_of (with_amount s k (amount_of t k)) q ≡ cond (k == q) (amount_of t q) (amount_of s q)
key_amount k t s q = amount_of-with_amount s k (amount_of t k) q ∙ by_key (k == q) refl
  where
    by_key : (b : Bool) → (k == q) ≡ b
        → cond (q == k) (amount_of t k) (amount_of s q) ≡ cond b (amount_of t q) (amount_of s q)
    by_key true e = cc (same_of k q e, same_number k)
    by_key false e = cc (flipped k q e)

-- each of the keys has its amount in the other amounts, and no other key has changed
pub with_amounts : (ks : List ℕ) (t s : Amounts) (q : ℕ)
    → amount_of (with_touched ks t s) q ≡ cond (is_touched ks q) (amount_of t q) (amount_of s q)
with_amounts [] t s q = refl
with_amounts (k ∷ ks) t s q =
    with_amounts ks t (with_amount s k (amount_of t k)) q
    ∙ ap (cond (is_touched ks q) (amount_of t q)) (key_amount k t s q)
    ∙ by_tests (k == q) (is_touched ks q)
  where
    by_tests : (a b : Bool) → cond b (amount_of t q) (cond a (amount_of t q) (amount_of s q))
        ≡ cond (a || b) (amount_of t q) (amount_of s q)
    by_tests true true = refl
    by_tests true false = refl
    by_tests false b = refl

-- the next state is the one before with the touched keys' amounts
pub touched_makes : (method : Method) (args : Args) (reply : ℕ) (s t : Amounts) → IsAmounts s
    → next_state method args reply s ≡ Some t
    → with_touched (touched_by method args) t s ≡ t
touched_makes method args reply s t is e = same_amounts _ t (with_formed keys t s is)
    (next_state-formed _ _ _ s t is e) (λ q. with_amounts _ t s q ∙ by_test q (is_touched _ q) refl)
  where
    keys : List ℕ
    keys = touched_by method args

    by_test : (q : ℕ) (b : Bool) → is_touched keys q ≡ b
        → cond b (amount_of t q) (amount_of s q) ≡ amount_of t q
    by_test q true touched = refl
    by_test q false none = sym (untouched _ _ _ q s t e none)

-- after a step that doesn't touch its key an observer answers as before
pub same_answer : (method : Method) (args : Args) (reply : ℕ) (s t : Amounts)
    → next_state method args reply s ≡ Some t → (m : Method) (a : Args)
    → is_touched (touched_by method args) a.a ≡ false → answer_in t m a ≡ answer_in s m a
same_answer method args reply s t next m a none =
    answer_by_amount s t m a (untouched method args reply a.a s t next none)

pub ruleset touch_laws = (untouched, touched_makes)

pub ruleset step_laws = (touched_makes, same_answer)
