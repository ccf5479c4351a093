-- What the judge keeps tracks a front up to a place.
use Rattle.std.specs.Prelude.{◌≡◌, ℕ, ◌<◌, List, Option, Some, slice_get, drop}
use Rattle.vyrd_base.specs.declared.log.Entry.{Entry}
use Rattle.vyrd_base.specs.States.{State}
use Rattle.vyrd_base.specs.Commits.{commit_count, commits_after, states_from}
use Rattle.vyrd_plain.specs.declared.execution.Execution.{Execution}
use Rattle.vyrd_plain.specs.Executions.{IsOpen}
use Rattle.vyrd_base.specs.Rules.{Rules}

-- The states go on from this one with the commits from the place on, and each caller's execution is
-- kept.
pub record Tracks (r : Rules) (states : List State) (earlier later : List Entry)
    (state : State) (executions : List (Option Execution)) : Type 0 where
  pub going : drop (commit_count earlier) states ≡ states_from r state (commits_after earlier later)
  pub open_calls : (c : ℕ) → c < r.header.callers
      → (o : Option Execution) × (slice_get executions c ≡ Some o)
      × IsOpen r states c earlier later o
