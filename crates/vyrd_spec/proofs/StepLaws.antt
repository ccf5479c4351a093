-- What the steps of each structure keep of a state, and lemmas that serve all of them.
use Rattle.vyrd_spec.proofs.Prelude.{◌≡◌, ℕ, zero, suc, Bool, true, false, cond, not, ◌||◌, List}
use Rattle.vyrd_spec.proofs.Prelude.{[], Option, Some, None, refl, ap, ◌∙◌, sym, subst, ◌==◌, ◌≢◌}
use Rattle.vyrd_spec.proofs.Prelude.{IfSome, then_some, same_Some, Args, Amounts, IsAmounts}
use Rattle.vyrd_spec.proofs.Prelude.{amount_of, with_amount, is_present, amount_of-with_amount}
use Rattle.vyrd_spec.proofs.Prelude.{IsAmounts-with_amount, no_amounts, same_of, flipped}
use Rattle.vyrd_spec.proofs.Prelude.{same_number, AllAmounts, is_touched, CanChange}
use Rattle.vyrd_base.specs.Structures.{Structure, by_reply}

-- What every structure meets. A step leaves amounts, and the keys that its call doesn't touch; what
-- is answered goes by the amount of the first argument's key alone; and each key that a call
-- touches
-- is changed by some step with it.
pub record StepsWell {M : Type 0} (s : Structure M) (touches : M → Args → List ℕ) : Type 0 where
  pub formed : (m : M) (args : Args) (reply : ℕ) (before after : Amounts) → IsAmounts before
      → s.next m args reply before ≡ Some after → IsAmounts after
  pub untouched : (m : M) (args : Args) (reply key : ℕ) (before after : Amounts)
      → s.next m args reply before ≡ Some after → is_touched (touches m args) key ≡ false
      → amount_of after key ≡ amount_of before key
  pub answers : (before after : Amounts) (m : M) (args : Args)
      → amount_of after args.a ≡ amount_of before args.a
      → s.answer after m args ≡ s.answer before m args
  pub changes : (m : M) (args : Args) (key : ℕ) → is_touched (touches m args) key ≡ true
      → CanChange (s.next m args) key

holds_at : (Q : Amounts → Type 0) (o : Option Amounts) (t : Amounts) → IfSome o Q → o ≡ Some t → Q t
holds_at Q None t h e = cc
holds_at Q (Some s) t h e = subst Q (same_Some s t e) h

-- what holds of each state that a reply may lead to holds of the one that it leads to
pub by_replies : (Q : Amounts → Type 0) (reply : ℕ) (at_0 at_1 at_2 : Option Amounts) (t : Amounts)
    → IfSome at_0 Q → IfSome at_1 Q → IfSome at_2 Q → by_reply reply at_0 at_1 at_2 ≡ Some t → Q t
by_replies Q zero at_0 at_1 at_2 t h0 h1 h2 e = holds_at Q at_0 t h0 e
by_replies Q (suc zero) at_0 at_1 at_2 t h0 h1 h2 e = holds_at Q at_1 t h1 e
by_replies Q (suc (suc zero)) at_0 at_1 at_2 t h0 h1 h2 e = holds_at Q at_2 t h2 e
by_replies Q (suc (suc (suc n))) at_0 at_1 at_2 t h0 h1 h2 e = cc

pub where_allowed : (Q : Amounts → Type 0) (b : Bool) (s : Amounts) → Q s → IfSome (then_some b s) Q
where_allowed Q true s h = h
where_allowed Q false s h = tt

-- what holds of each key with its amount holds after a key gets an amount of which it holds
pub AllAmounts-with_amount : (passes : ℕ → ℕ → Type 0) (s : Amounts) (k a : ℕ) → AllAmounts passes s
    → (a ≢ 0 → passes k a)
    → AllAmounts passes (with_amount s k a)
AllAmounts-with_amount passes s k a all new = λ q. by_key q (amount_of _ q)
    (amount_of-with_amount s k a q) (q == k) refl
  where
    by_key : (q n : ℕ) → n ≡ cond (q == k) a (amount_of s q) → (b : Bool) → (q == k) ≡ b → n ≢ 0
        → passes q n
    by_key q n is true e some =
        let given : n ≡ a = cc in
        rw given (rw (same_of q k e) (new (λ z. some (given ∙ z))))
    by_key q n is false e some =
        let kept : n ≡ amount_of s q = cc in
        rw kept (all q (λ z. some (kept ∙ z)))

-- a key other than the one that gets an amount
pub other_key : (s : Amounts) (k a q : ℕ) → (k == q) ≡ false → amount_of (with_amount s k a) q
    ≡ amount_of s q
other_key s k a q other = cc (amount_of-with_amount s k a q, flipped k q other)

pub or_false : (b : Bool) → (b || false) ≡ false → b ≡ false
or_false true e = e
or_false false e = refl

abbrev pub Stays : Amounts → ℕ → Amounts → Type 0
Stays s q t = amount_of t q ≡ amount_of s q

-- a key that keeps its amount
pub same_amount : (s : Amounts) (k q : ℕ) → amount_of (with_amount s k (amount_of s k)) q
    ≡ amount_of s q
same_amount s k q = amount_of-with_amount s k (amount_of s k) q ∙ by_key (q == k) refl
  where
    by_key : (b : Bool) → (q == k) ≡ b → cond b (amount_of s k) (amount_of s q) ≡ amount_of s q
    by_key true e = ap (amount_of s) (sym (same_of q k e))
    by_key false e = refl

-- a key alone among those touched is that key
pub of_first : (b : Bool) → (b || false) ≡ true → b ≡ true
of_first true e = refl
of_first false e = e

-- the key that was set
pub set_amount : (s : Amounts) (k a q : ℕ) → (k == q) ≡ true → amount_of (with_amount s k a) q ≡ a
set_amount s k a q e = cc (same_of k q e, amount_of-with_amount s k a k, same_number k)

-- one key alone, which is there
pub lone : ℕ → Amounts
lone k = with_amount [] k 1

pub lone_amount : (k q : ℕ) → (k == q) ≡ true → amount_of (lone k) q ≡ 1
unfolding lone
lone_amount k q e = set_amount [] k 1 q e

pub lone_formed : (k : ℕ) → IsAmounts (lone k)
unfolding lone
lone_formed k = IsAmounts-with_amount [] k 1 no_amounts

pub lone_present : (k : ℕ) → is_present (lone k) k ≡ true
lone_present k = ap (λ a. not (a == 0)) (lone_amount k k (same_number k))
