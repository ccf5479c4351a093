-- The executions of a front that commit, in the order of their commits, and the states of the
-- specification along them: the start, then the state after the first, after the second, and so on.
-- Where each execution takes effect is its commit.
use Rattle.std.specs.Prelude.{ℕ, Bool, true, false, List, [], ◌∷◌, Option, Some, None}
use Rattle.std.specs.Prelude.{option_and_then, count_by, filter_map}
use Rattle.std.specs.Bool.{then_some}
use Rattle.vyrd_base.specs.declared.log.Kind.{Kind}
use Rattle.vyrd_base.specs.declared.log.Kind.TheVariants.{Return, Commit, BlockCommit}
use Rattle.vyrd_base.specs.declared.log.Entry.{Entry}
use Rattle.vyrd_base.specs.Places.{Place, places_after, first_answer}
use Rattle.vyrd_base.specs.Callers.{Called, open_call, by_caller}
use Rattle.vyrd_base.specs.States.{State}
use Rattle.vyrd_base.specs.Rules.{Rules}

-- a lone commit, or the end of a block that commits
abbrev pub is_commit : Kind → Bool
is_commit Commit = true
is_commit BlockCommit = true
is_commit _ = false

-- the reply, if an entry is a return
abbrev pub returned : Kind → Option ℕ
returned (Return reply) = Some reply
returned _ = None

-- the reply of the caller's next return, if there is one
abbrev pub next_reply : ℕ → List Entry → Option ℕ
next_reply c later = first_answer (by_caller c returned) later

-- an execution that has committed: its caller, what was called, and its reply once it has returned
pub record Committed : Type 0 where
  pub caller : ℕ
  pub called : Option Called
  pub reply : Option ℕ

-- the execution whose commit stands at a place: its call stands before the commit, and its return
-- after it
abbrev pub committed_at : Place Entry → Committed
committed_at place = record {
  caller = place.here.caller;
  called = open_call place.here.caller place.earlier;
  reply = next_reply place.here.caller place.later;
}

-- the executions that commit from a place on, in the order of their commits
abbrev pub commits_after : List Entry → List Entry → List Committed
commits_after earlier later =
    filter_map (λ place. then_some (is_commit place.here.kind) (committed_at place))
    (places_after earlier later)

-- the committed executions of a front, in the order of their commits
unfoldable pub commits : List Entry → List Committed
commits front = commits_after [] front

-- what a call gives with its reply, once the execution has returned
abbrev pub once_returned : {B : Type 0} → (Called → ℕ → Option B) → Committed → Option B
once_returned f x = option_and_then (λ called. option_and_then (f called) x.reply) x.called

-- the state after an execution, if it has returned and its reply is allowed
abbrev pub state_after : Rules → State → Committed → Option State
state_after r state x =
    once_returned (λ called reply. r.next called.method called.args reply state) x

-- The states from this one on, with one more after each execution. They end before the first
-- execution that hasn't returned or whose reply is refused.
abbrev pub states_from : Rules → State → List Committed → List State
states_from r state [] = state ∷ []
states_from r state (x ∷ xs) =
    state ∷ (elim (state_after r state x) [ None ↦ [] | Some next ↦ states_from r next xs ])

-- The states along the commits of a front, from the state at the start on: none, if the starting
-- words stand for no state.
abbrev pub states_of : Rules → Option State → List Entry → List State
states_of r None front = []
states_of r (Some start) front = states_from r start (commits front)

-- how many commits stand among these entries
abbrev pub commit_count : List Entry → ℕ
commit_count entries = count_by (λ e. is_commit e.kind) entries
