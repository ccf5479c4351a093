-- What each case is worth if a reply is refused.
use Rattle.vyrd_own_states.proofs.Prelude.{◌≡◌, ℕ, Bool, true, false, not, cond, ◌&&◌, List, []}
use Rattle.vyrd_own_states.proofs.Prelude.{◌∷◌, ◌++◌, Option, Some, None, refl, ◌==◌, find}
use Rattle.vyrd_own_states.proofs.Prelude.{option_map, list_all, Effect, State, holds, value, Case}
use Rattle.vyrd_own_states.proofs.Prelude.{Method, Written, at_hand, next_of, with_effects}

-- none of them holds if there is none of which something is said
none_holds : {A : Type 0} (s : State) (values : List ℕ) (f : Case → A) (cases : List Case)
    → option_map f (find (λ case. holds (value s values case.allow)) cases) ≡ None
    → list_all (λ case. value s values case.allow == 0) cases ≡ true
none_holds s values f [] none = refl
none_holds s values f (case ∷ cases) none =
    by_test (value s values case.allow == 0) (none_holds s values f cases) none
  where
    by_test : (b : Bool)
        → (option_map f (find (λ case. holds (value s values case.allow)) cases) ≡ None
        → list_all (λ case. value s values case.allow == 0) cases ≡ true)
        → option_map f (cond (not b) (Some case)
        (find (λ case. holds (value s values case.allow)) cases)) ≡ None
        → (b && list_all (λ case. value s values case.allow == 0) cases) ≡ true
    by_test true rest none = rest none
    by_test false rest none = cc

-- a step that isn't made does nothing
no_effects : (s : State) (o : Option (List Effect)) → option_map (with_effects s) o ≡ None
    → o ≡ None
no_effects s None none = refl
no_effects s (Some effects) none = cc

pub cases_are_0 : (w : Written) (m : Method) (args : List ℕ) (reply : ℕ) (s : State)
    → next_of w m args reply s ≡ None
    → list_all (λ case. value s (at_hand w m s args ++ reply ∷ []) case.allow == 0) m.cases ≡ true
unfolding next_of
cases_are_0 w m args reply s none =
    none_holds s (at_hand w m s _ ++ reply ∷ []) _ m.cases (no_effects s _ none)
