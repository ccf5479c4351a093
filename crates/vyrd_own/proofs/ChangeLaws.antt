-- What effects leave as it is.
use Rattle.vyrd_own.proofs.Prelude.{◌≡◌, ℕ, Bool, true, false, cond, List, [], ◌∷◌, refl, ap, ◌∙◌}
use Rattle.vyrd_own.proofs.Prelude.{◌==◌, ◌||◌, list_any, amount_of, amount_of-with_amount, Effect}
use Rattle.vyrd_own.proofs.Prelude.{SetShown, SetHidden, SetRegister, PutLast, PutFirst, TakeFirst}
use Rattle.vyrd_own.proofs.Prelude.{TakeLast, Empty, EmptyShown, State}
use Rattle.vyrd_base.specs.Own.Steps.{shown_keys, with_effect, with_effects, is_clearing}

left_false : (a b : Bool) → (a || b) ≡ false → a ≡ false
left_false false b e = refl
left_false true b e = cc

right_false : (a b : Bool) → (a || b) ≡ false → b ≡ false
right_false false b e = e
right_false true b e = cc

module _ (key : ℕ) where
  pub other_keys_by : (s : State) (effects : List Effect) → list_any (λ k. key == k)
      (shown_keys effects) ≡ false → list_any is_clearing effects ≡ false
      → amount_of (with_effects s effects).shown key ≡ amount_of s.shown key
  other_keys_by s [] e c = refl
  other_keys_by s (SetShown k a ∷ effects) e c =
      other_keys_by (with_effect s (SetShown k a)) effects (right_false _ _ e) c
      ∙ amount_of-with_amount s.shown k a key ∙ ap (λ b. cond b a (amount_of s.shown key))
      (left_false _ (list_any (λ k. key == k) (shown_keys effects)) e)
  other_keys_by s (SetHidden k a ∷ effects) e c = other_keys_by (with_effect s (SetHidden k a))
      effects e c
  other_keys_by s (SetRegister i a ∷ effects) e c = other_keys_by (with_effect s (SetRegister i a))
      effects e c
  other_keys_by s (PutLast i a ∷ effects) e c = other_keys_by (with_effect s (PutLast i a)) effects
      e c
  other_keys_by s (PutFirst i a ∷ effects) e c = other_keys_by (with_effect s (PutFirst i a))
      effects e c
  other_keys_by s (TakeFirst i ∷ effects) e c = other_keys_by (with_effect s (TakeFirst i)) effects
      e c
  other_keys_by s (TakeLast i ∷ effects) e c = other_keys_by (with_effect s (TakeLast i)) effects e
      c
  other_keys_by s (Empty i ∷ effects) e c = other_keys_by (with_effect s (Empty i)) effects e c
  other_keys_by s (EmptyShown ∷ effects) e c = cc

pub other_keys : (s : State) (effects : List Effect) (key : ℕ) → list_any (λ k. key == k)
    (shown_keys effects) ≡ false → list_any is_clearing effects ≡ false
    → amount_of (with_effects s effects).shown key ≡ amount_of s.shown key
other_keys s effects key e c = other_keys_by key s effects e c
