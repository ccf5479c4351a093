-- What the judge keeps of a caller's open execution.
use Rattle.std.specs.Prelude.{◌≡◌, ◌<◌, ℕ, Bool, true, false, not, ◌&&◌, ◌||◌, ◌==◌, List, Option}
use Rattle.std.specs.Prelude.{Some, None, slice_get}
use Rattle.std.specs.List.{list_any}
use Rattle.vyrd_base.specs.declared.header.Header.{Header}
use Rattle.vyrd_base.specs.declared.subject.Method.{Method}
use Rattle.vyrd_base.specs.declared.subject.Args.{Args}
use Rattle.vyrd_base.specs.declared.log.Entry.{Entry}
use Rattle.vyrd_base.specs.Subjects.{must_commit}
use Rattle.vyrd_base.specs.Callers.{open_call, has_committed}
use Rattle.vyrd_base.specs.States.{State}
use Rattle.vyrd_base.specs.Commits.{next_reply}
use Rattle.vyrd_base.specs.Faults.{states_since_call}
use Rattle.vyrd_plain.specs.declared.execution.Execution.{Execution}
use Rattle.vyrd_base.specs.Entries.{has_method}
use Rattle.vyrd_base.specs.Rules.{Rules}

-- whether a reply, if there is one, is this number
abbrev pub is_reply : Option ℕ → ℕ → Bool
is_reply None answer = false
is_reply (Some reply) answer = answer == reply

-- whether the execution's method may return without a commit, and this state answers its reply
abbrev pub answers : (r : Rules) → Execution → State → Bool
answers r x state =
    not (must_commit x.method) && is_reply x.reply (r.answer state x.method x.args)

-- an execution that sees one more state
abbrev pub seeing : (r : Rules) → State → Option Execution → Option Execution
seeing r state None = None
seeing r state (Some x) = Some (record x { is_answered = x.is_answered || answers r x state })

-- the same execution, once it has committed
abbrev pub with_commit : Execution → Execution
with_commit x = record x { has_committed = true }

-- What is kept of the caller's execution, by the entries before a place, given the newest first,
-- and those from it on: what was called, its next reply, whether it has committed, and whether some
-- state since the call answers that reply.
pub record IsExecution (r : Rules) (states : List State) (c : ℕ) (earlier later : List Entry)
    (x : Execution) : Type 0 where
  pub called : open_call c earlier ≡ Some (record { method = x.method; args = x.args })
  pub allowed : has_method r.header x.method x.args ≡ true
  pub reply : x.reply ≡ next_reply c later
  pub committed : x.has_committed ≡ has_committed c earlier
  pub answered : x.is_answered ≡ list_any (answers r x) (states_since_call states c earlier)

-- the same for a caller that may be in no execution
abbrev pub IsOpen : Rules → List State → ℕ → List Entry → List Entry → Option Execution → Type 0
IsOpen r states c earlier later None = open_call c earlier ≡ None
IsOpen r states c earlier later (Some x) = IsExecution r states c earlier later x

-- an execution that begins in a state
abbrev pub begun : (r : Rules) → Method → Args → Option ℕ → State → Execution
begun r method args reply state =
    let x : Execution = record {
      method = method;
      args = args;
      reply = reply;
      has_committed = false;
      is_answered = false;
    } in
    record x { is_answered = answers r x state }

-- every kept execution is of a method that the header's specification has
abbrev pub AreAllowed : Header → List (Option Execution) → Type 0
AreAllowed h executions =
    (c : ℕ) (x : Execution) → c < h.callers → slice_get executions c ≡ Some (Some x)
    → has_method h x.method x.args ≡ true
