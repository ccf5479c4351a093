-- A specification that runs along the commits of a front, and the state in which it is.
use Rattle.std.specs.Prelude.{◌≡◌, ℕ, ◌+◌, ◌≤◌, List, take, drop, Option, Some, IfSome, slice_get}
use Rattle.std.specs.Prelude.{option_map, option_and_then, if◌then◌else◌}
use Rattle.vyrd_base.specs.declared.log.Entry.{Entry}
use Rattle.vyrd_base.specs.declared.log.StartWord.{StartWord}
use Rattle.vyrd_base.specs.Callers.{Called}
use Rattle.vyrd_base.specs.Commits.{is_commit, committed_at, state_after}
use Rattle.vyrd_base.specs.Entries.{place_of}
use Rattle.vyrd_base.specs.Places.{newest_first}
use Rattle.vyrd_base.specs.Rules.{Charter, Rules, rules_by}
use Rattle.vyrd_base.specs.States.{State}
use Rattle.vyrd_witness.specs.declared.execution.Execution.{Execution}
use Rattle.vyrd_states.specs.Known.{state_then}

-- what an execution has called
abbrev pub called_by : Execution → Called
called_by x = record { method = x.method; args = x.args }

-- the state after the commit of an execution, if it returns and its reply is allowed
abbrev pub state_by : Rules → Execution → State → Option State
state_by r x state =
    option_and_then (λ back. r.next x.method x.args back.reply state) x.returned

-- the state after an entry, by the state before it
abbrev pub state_beyond : Rules → List Entry → ℕ → State → Entry → Option State
state_beyond r front at state e =
    if is_commit e.kind
    then state_after r state
    (committed_at (place_of e (newest_first (take at front)) (drop (at + 1) front)))
    else Some state

-- the state after the entry at a position of a front, by the state before it
abbrev pub state_past : Rules → List Entry → ℕ → State → Option State
state_past r front at state = option_and_then (state_beyond r front at state) (slice_get front at)

-- A specification that runs, as its contract has it: what names its rules, its state, and how many
-- steps it has made.
pub record Run : Type 0 where
  pub charter : Charter
  pub state : State
  pub made : ℕ

-- what a type of specifications says of one of them
abbrev pub run_by : {S : Type 0} → (S → Charter) → (S → State) → (S → ℕ) → S → Run
run_by charter state made s = record { charter = charter s; state = state s; made = made s }

-- What runs after one entry more: by the same rules, in this state if that is known, and with one
-- step more at most.
pub record LeadsTo (before : Run) (state : Option State) (after : Option Run) : Type 0 where
  pub state_is : option_map (λ run. run.state) after ≡ state
  pub charter : IfSome after (λ run. run.charter ≡ before.charter)
  pub made : IfSome after (λ run. run.made ≤ before.made + 1)

-- What runs after the first n entries of a front: by these rules, in the state there if that is
-- known, and with n steps at most.
pub record IsKnown (c : Charter) (starting : List StartWord) (front : List Entry) (n : ℕ)
    (found : Option Run) : Type 0 where
  pub state_is : option_map (λ run. run.state) found ≡ state_then (rules_by c) starting front n
  pub charter : IfSome found (λ run. run.charter ≡ c)
  pub made : IfSome found (λ run. run.made ≤ n)
