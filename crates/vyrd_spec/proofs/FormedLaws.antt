-- What a state shows is amounts, whatever the rules are that it steps by: keys rise, and no amount
-- is 0.
use Rattle.vyrd_spec.proofs.Prelude.{◌≡◌, ℕ, List, [], ◌∷◌, Option, Some, None, refl, subst}
use Rattle.vyrd_spec.proofs.Prelude.{same_Some, option_map, Method, Args, IsAmounts, Written}
use Rattle.vyrd_spec.proofs.Prelude.{written_in, State, IsAmounts-with_amount, no_amounts}
use Rattle.std.specs.Prelude.{option_and_then}
use Rattle.vyrd_base.specs.declared.own.effect.Effect.{Effect}
use Rattle.vyrd_base.specs.declared.own.effect.Effect.TheVariants.{SetShown, SetHidden, SetRegister}
use Rattle.vyrd_base.specs.declared.own.effect.Effect.TheVariants.{PutLast, PutFirst, TakeFirst}
use Rattle.vyrd_base.specs.declared.own.effect.Effect.TheVariants.{TakeLast, Empty, EmptyShown}
use Rattle.vyrd_base.specs.Own.OwnRules.{own_method, own_next}
use Rattle.vyrd_base.specs.Own.Steps.{with_effect, with_effects, next_of}
use Rattle.vyrd_base.specs.Rules.{Charter, built_in, own, rules_by, given}
use Rattle.vyrd_base.specs.Subjects.{own_number}
use Rattle.vyrd_spec.proofs.StepMeets.{next_state-formed}

formed_effect : (s : State) (e : Effect) → IsAmounts s.shown → IsAmounts (with_effect s e).shown
formed_effect s (SetShown key amount) is = IsAmounts-with_amount s.shown key amount is
formed_effect s (SetHidden key amount) is = is
formed_effect s (SetRegister i new) is = is
formed_effect s (PutLast i new) is = is
formed_effect s (PutFirst i new) is = is
formed_effect s (TakeFirst i) is = is
formed_effect s (TakeLast i) is = is
formed_effect s (Empty i) is = is
formed_effect s EmptyShown is = no_amounts

-- after what a line of a case does, one after the other
pub formed_after : (s : State) (es : List Effect) → IsAmounts s.shown
    → IsAmounts (with_effects s es).shown
formed_after s [] is = is
formed_after s (e ∷ es) is = formed_after (with_effect s e) es (formed_effect s e is)

-- what an option may lead to is formed if each state is that its value leads to
formed_map : {A : Type 0} (f : A → State) (o : Option A) (t : State)
    → ((x : A) → o ≡ Some x → IsAmounts (f x).shown) → option_map f o ≡ Some t → IsAmounts t.shown
formed_map f None t each e = cc
formed_map f (Some x) t each e = subst (λ s. IsAmounts s.shown) (same_Some (f x) t e) (each x refl)

formed_then : {A : Type 0} (f : A → Option State) (o : Option A) (t : State)
    → ((x : A) → f x ≡ Some t → IsAmounts t.shown) → option_and_then f o ≡ Some t
    → IsAmounts t.shown
formed_then f None t each e = cc
formed_then f (Some x) t each e = each x e

own_formed : (w : Written) (i : ℕ) (args : List ℕ) (reply : ℕ) (s t : State) → IsAmounts s.shown
    → own_next w i args reply s ≡ Some t → IsAmounts t.shown
unfolding next_of
own_formed w i args reply s t is = formed_then (λ m. next_of w m _ _ s) (own_method w i) t
    (λ m e. formed_map _ _ t (λ es _. formed_after s es is) e)

-- a step leaves amounts
pub formed_next : (c : Charter) (method : Method) (args : Args) (reply : ℕ) (s t : State)
    → IsAmounts s.shown → (rules_by c).next method args reply s ≡ Some t → IsAmounts t.shown
formed_next (built_in h) method args reply s t is = formed_map _ _ t
    (λ amounts e. next_state-formed method args reply s.shown _ is e)
formed_next (own h lines) method args reply s t is = formed_then
    (λ i. own_next (written_in lines) i (given (written_in lines) i args) reply s)
    (own_number method) t
    (λ i. own_formed (written_in lines) i (given (written_in lines) i args) reply s t is)
