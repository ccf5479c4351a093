-- What a commit and an entry lead to.
use Rattle.std.specs.Prelude.{◌≡◌, ◌≤◌, ℕ, List, ◌∷◌, ◌&&◌, not, map, length, Option, Some, None}
use Rattle.std.specs.Prelude.{if◌then◌else◌, slice_set}
use Rattle.vyrd_base.specs.declared.log.Entry.{Entry}
use Rattle.vyrd_base.specs.declared.log.StartWord.{StartWord}
use Rattle.vyrd_base.specs.declared.verdict.Why.{Why}
use Rattle.vyrd_base.specs.declared.verdict.Why.TheVariants.{Observer}
use Rattle.vyrd_base.specs.Places.{Place}
use Rattle.vyrd_base.specs.Amounts.{Amounts, first_difference}
use Rattle.vyrd_base.specs.States.{State}
use Rattle.vyrd_base.specs.Commits.{commit_count}
use Rattle.vyrd_base.specs.Faults.{step_fault, fault_at}
use Rattle.vyrd_plain.specs.declared.execution.Execution.{Execution}
use Rattle.vyrd_plain.specs.declared.outcome.Outcome.{Outcome}
use Rattle.vyrd_plain.specs.declared.outcome.Outcome.TheVariants.{Goes, Faults, Ends}
use Rattle.vyrd_plain.specs.Executions.{seeing, with_commit}
use Rattle.vyrd_plain.specs.Tracking.{Tracks}
use Rattle.vyrd_base.specs.Rules.{Rules}

-- the execution of the caller's commit has returned, its reply is allowed, and the state after it
-- is what the words show
pub record CommitGoes (r : Rules) (shown : Amounts) (c : ℕ) (x : Execution)
    (before after : State) (old new : List (Option Execution)) : Type 0 where
  pub reply : ℕ
  pub returned : x.reply ≡ Some reply
  pub next : r.next x.method x.args reply before ≡ Some after
  pub same : first_difference shown (r.shown after) ≡ None
  pub seen : new ≡ map (seeing r after) (slice_set old c (Some (with_commit x)))

-- the commit's execution has returned, and this is wrong with it
pub record CommitFaults (r : Rules) (shown : Amounts) (x : Execution) (before : State)
    (why : Why) : Type 0 where
  pub reply : ℕ
  pub returned : x.reply ≡ Some reply
  pub fault : step_fault r shown (record { method = x.method; args = x.args }) reply before
      ≡ Some why

-- what a commit of the caller's execution leads to, if the words show this
abbrev pub CommitGives : (r : Rules) → Amounts → ℕ → Execution → State → State
    → List (Option Execution)
    → List (Option Execution) → Outcome → Type 0
CommitGives r shown c x before after old new Goes = CommitGoes r shown c x before after old new
CommitGives r shown c x before after old new (Faults why) = CommitFaults r shown x before why
CommitGives r shown c x before after old new Ends = x.reply ≡ None

-- What the entry at a place leads to: it isn't a fault, and what is kept tracks the front up to the
-- next place; or this is its fault; or no later state is known, so that nothing later is a fault
-- either.
abbrev pub PlaceGives : Rules → List StartWord → List State → Place Entry → State
    → List (Option Execution) → Outcome → Type 0
PlaceGives r starting states place state executions Goes =
    (fault_at r starting states place ≡ None)
    × Tracks r states (place.here ∷ place.earlier) place.later state executions
PlaceGives r starting states place state executions (Faults why) =
    fault_at r starting states place ≡ Some why
PlaceGives r starting states place state executions Ends =
    (fault_at r starting states place ≡ None)
    × (length states ≤ commit_count (place.here ∷ place.earlier))

-- what a return leads to: it is a fault if the execution has no commit and no state since its call
-- answers the reply
abbrev pub return_outcome : Execution → ℕ → Outcome
return_outcome x reply =
    if not x.has_committed && not x.is_answered then Faults (Observer reply) else Goes
