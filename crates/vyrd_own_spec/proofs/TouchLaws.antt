-- A step leaves the keys that it doesn't touch.
use Rattle.vyrd_own_spec.proofs.Prelude
use Prelude.{◌≡◌, ℕ, Bool, true, false, cond, List, [], ◌∷◌, Some, refl, ap, ◌∙◌, sym, ◌||◌, ◌==◌}
use Prelude.{unwrap_or, length, list_any, nat_cmp, Amounts, IsAmounts, amount_of, keys_of}
use Prelude.{amount_of-with_amount, same_amounts, flipped, unsigned_tied, length-set}
use Prelude.{list_any-append, formed_after, with_formed, with_amounts, State, Effect, with_effect}
use Prelude.{with_effects, shown_keys, is_clearing, is_touched, with_touched, touched_by}
use Rattle.std.specs.FinMap.{find}
use Rattle.vyrd_base.specs.declared.own.effect.Effect.TheVariants.{SetShown, SetHidden, SetRegister}
use Rattle.vyrd_base.specs.declared.own.effect.Effect.TheVariants.{PutLast, PutFirst, TakeFirst}
use Rattle.vyrd_base.specs.declared.own.effect.Effect.TheVariants.{TakeLast, Empty, EmptyShown}

left_false : (a b : Bool) → (a || b) ≡ false → a ≡ false
left_false false b e = refl
left_false true b e = cc

right_false : (a b : Bool) → (a || b) ≡ false → b ≡ false
right_false false b e = e
right_false true b e = cc

cond_alike : (b : Bool) (x : ℕ) → cond b x x ≡ x
cond_alike true x = refl
cond_alike false x = refl

-- a key that isn't set has the amount that it had, or none if the amounts are cleared
other_amounts : (s : State) (es : List Effect) (q : ℕ) → is_touched (shown_keys es) q ≡ false
    → amount_of (with_effects s es).shown q ≡ cond (list_any is_clearing es) 0 (amount_of s.shown q)
other_amounts s [] q e = refl
other_amounts s (SetShown k a ∷ es) q e =
    other_amounts (with_effect s (SetShown k a)) es q
    (right_false (k == q) (is_touched (shown_keys es) q) e)
    ∙ ap (cond (list_any is_clearing es) 0)
    (amount_of-with_amount s.shown k a q
    ∙ ap (λ b. cond b a (amount_of s.shown q))
    (flipped k q (left_false (k == q) (is_touched (shown_keys es) q) e)))
other_amounts s (SetHidden k a ∷ es) q e = other_amounts (with_effect s (SetHidden k a)) es q e
other_amounts s (SetRegister i a ∷ es) q e = other_amounts (with_effect s (SetRegister i a)) es q e
other_amounts s (PutLast i a ∷ es) q e = other_amounts (with_effect s (PutLast i a)) es q e
other_amounts s (PutFirst i a ∷ es) q e = other_amounts (with_effect s (PutFirst i a)) es q e
other_amounts s (TakeFirst i ∷ es) q e = other_amounts (with_effect s (TakeFirst i)) es q e
other_amounts s (TakeLast i ∷ es) q e = other_amounts (with_effect s (TakeLast i)) es q e
other_amounts s (Empty i ∷ es) q e = other_amounts (with_effect s (Empty i)) es q e
other_amounts s (EmptyShown ∷ es) q e =
    other_amounts (with_effect s EmptyShown) es q e ∙ cond_alike (list_any is_clearing es) 0

-- a key that isn't there has no amount
not_there : (s : Amounts) (q : ℕ) → is_touched (keys_of s) q ≡ false → amount_of s q ≡ 0
not_there [] q e = refl
not_there (p ∷ s) q e =
    ap (λ b. unwrap_or (cond b (Some p.1) (find nat_cmp q s)) 0)
    (unsigned_tied q p.0 ∙ flipped p.0 q (left_false (p.0 == q) (is_touched (keys_of s) q) e))
    ∙ not_there s q (right_false (p.0 == q) (is_touched (keys_of s) q) e)

-- the touched keys have their amounts, and so has every other key
pub touched_all : (s : State) (es : List Effect) → IsAmounts s.shown
    → with_touched (touched_by s es) (with_effects s es).shown s.shown ≡ (with_effects s es).shown
touched_all s es is =
    same_amounts (with_touched keys t s.shown) t (with_formed keys t s.shown is)
    (formed_after s es is)
    (λ q. with_amounts keys t s.shown q ∙ by_test q (is_touched keys q) refl)
  where
    t : Amounts
    t = (with_effects s es).shown

    keys : List ℕ
    keys = touched_by s es

    by_clear : (q : ℕ) (b : Bool)
        → (is_touched (cond b (keys_of s.shown) []) q || is_touched (shown_keys es) q) ≡ false
        → amount_of s.shown q ≡ cond b 0 (amount_of s.shown q)
    by_clear q true e = not_there s.shown q
        (left_false (is_touched (keys_of s.shown) q) (is_touched (shown_keys es) q) e)
    by_clear q false e = refl

    by_test : (q : ℕ) (b : Bool) → is_touched keys q ≡ b
        → cond b (amount_of t q) (amount_of s.shown q) ≡ amount_of t q
    by_test q true e = refl
    by_test q false e =
        let split = sym
        (list_any-append (λ k. k == q) (cond (list_any is_clearing es) (keys_of s.shown) [])
        (shown_keys es)) ∙ e in
        by_clear q (list_any is_clearing es) split
        ∙ sym (other_amounts s es q
        (right_false (is_touched (cond (list_any is_clearing es) (keys_of s.shown) []) q)
        (is_touched (shown_keys es) q) split))

-- nothing is shown before and after
nothing_touched : (ks : List ℕ) → with_touched ks [] [] ≡ []
nothing_touched [] = refl
nothing_touched (k ∷ ks) = nothing_touched ks

-- the same of what is shown by the rules
pub touched_shown : (a b : Bool) (ks : List ℕ) (t s : Amounts) → with_touched ks t s ≡ t
    → with_touched ks (cond a [] (cond b [] t)) (cond a [] (cond b [] s)) ≡ cond a [] (cond b [] t)
touched_shown true b ks t s is = nothing_touched ks
touched_shown false true ks t s is = nothing_touched ks
touched_shown false false ks t s is = is

-- the registers stay as many
pub registers_stay : (s : State) (es : List Effect) → length (with_effects s es).registers
    ≡ length s.registers
registers_stay s [] = refl
registers_stay s (SetRegister i a ∷ es) = registers_stay (with_effect s (SetRegister i a)) es
    ∙ length-set s.registers i a
registers_stay s (SetShown k a ∷ es) = registers_stay (with_effect s (SetShown k a)) es
registers_stay s (SetHidden k a ∷ es) = registers_stay (with_effect s (SetHidden k a)) es
registers_stay s (PutLast i a ∷ es) = registers_stay (with_effect s (PutLast i a)) es
registers_stay s (PutFirst i a ∷ es) = registers_stay (with_effect s (PutFirst i a)) es
registers_stay s (TakeFirst i ∷ es) = registers_stay (with_effect s (TakeFirst i)) es
registers_stay s (TakeLast i ∷ es) = registers_stay (with_effect s (TakeLast i)) es
registers_stay s (Empty i ∷ es) = registers_stay (with_effect s (Empty i)) es
registers_stay s (EmptyShown ∷ es) = registers_stay (with_effect s EmptyShown) es
