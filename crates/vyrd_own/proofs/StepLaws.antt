-- The next state, from what a call does.
use Rattle.vyrd_own.proofs.Prelude.{◌≡◌, ℕ, List, ap, option_map, Effect, Method, Written, State}
use Rattle.std.proofs.Common.{Option}
use Rattle.vyrd_base.specs.Own.Steps.{next_of, effects_of, with_effects}

pub next_is : (p : Written) (m : Method) (args : List ℕ) (reply : ℕ) (s : State)
    (o : Option (List Effect))
    → effects_of p m s args reply ≡ o → next_of p m args reply s ≡ option_map (with_effects s) o
unfolding next_of
next_is p m args reply s o e = ap (option_map (with_effects s)) e
