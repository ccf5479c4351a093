-- What runs past one entry more.
use Rattle.vyrd_follow.proofs.Prelude.{◌≡◌, ℕ, ◌+◌, ◌<◌, List, length, Option, Some, None}
use Rattle.vyrd_follow.proofs.Prelude.{slice_get, sym, arith, Entry, StartWord, Charter, Rules}
use Rattle.vyrd_follow.proofs.Prelude.{rules_by, State, IsKnown, LeadsTo}
use Rattle.vyrd_base.proofs.CommitLaws.{Commits}
use Rattle.vyrd_states.specs.Running.{Run, state_by, state_past}
use Rattle.vyrd_states.proofs.CallLaws.{state_past-commit}
use Rattle.vyrd_states.proofs.RunLaws.{known_next, none_next, known_none}
use Rattle.vyrd_witness.specs.declared.execution.Execution.{Execution}
use Rattle.vyrd_witness.specs.Executions.{execution_in}

pub known_past : (c : Charter) (starting : List StartWord) (front : List Entry) (at : ℕ)
    (run : Run) (found : Option Run) → at < length front
    → IsKnown c starting front at (Some run)
    → LeadsTo run (state_past (rules_by run.charter) front at run.state) found
    → IsKnown c starting front (at + 1) found
known_past c starting front at run None within known leads = search (known_none, none_next, arith)
known_past c starting front at run (Some next) within known leads = search (known_next, arith)

-- the state past a commit whose execution is found
pub past_commit : (r : Rules) (front : List Entry) (at : ℕ) (e : Entry) (x : Execution)
    (s : State) → slice_get front at ≡ Some e → Commits e.kind
    → execution_in front at e.caller ≡ Some x → state_past r front at s ≡ state_by r x s
past_commit r front at e x s here commits found = cc (state_past-commit r front at e s here commits)

-- a state that isn't known isn't known later
pub none_past : (c : Charter) (starting : List StartWord) (front : List Entry) (at : ℕ)
    → at < length front → IsKnown c starting front at None
    → IsKnown c starting front (at + 1) None
none_past c starting front at within known =
    known_none c _ _ at _ (omega arith) (omega (arith, within)) (sym known.state_is)
