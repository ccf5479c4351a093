-- The built-in structures refuse each reply from 3 on.
use Rattle.vyrd_states.proofs.Prelude.{arith, ◌≡◌, ℕ, ◌≤◌, suc, None, Header, Method, rules_of}
use Rattle.vyrd_states.proofs.Prelude.{State}
use Rattle.vyrd_base.specs.declared.subject.Args.{Args}

refused_above_2 : (h : Header) (method : Method) (args : Args) (more : ℕ) (state : State)
    → (rules_of h).next method args (suc (suc (suc more))) state ≡ None
refused_above_2 h method args more state = grind (arith, more)

pub refused_from_3 : (h : Header) (method : Method) (args : Args) (reply : ℕ) (state : State)
    → 3 ≤ reply → (rules_of h).next method args reply state ≡ None
refused_from_3 h method args reply state high = grind (arith, refused_above_2)
