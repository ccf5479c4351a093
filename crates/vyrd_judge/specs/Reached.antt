-- What is judged up to a place: the state there, and what each caller's open execution may answer.
use Rattle.std.specs.Prelude.{◌≡◌, ◌<◌, ◌==◌, ℕ, true, false, List, Some, drop, slice_get}
use Rattle.std.specs.List.{list_any}
use Rattle.vyrd_base.specs.declared.log.Entry.{Entry}
use Rattle.vyrd_base.specs.Callers.{Called, open_call, has_committed}
use Rattle.vyrd_base.specs.Subjects.{must_commit}
use Rattle.vyrd_base.specs.States.{State}
use Rattle.vyrd_base.specs.Commits.{commit_count, commits_after, states_from}
use Rattle.vyrd_base.specs.Faults.{states_since_call}
use Rattle.vyrd_base.specs.Entries.{has_method}
use Rattle.vyrd_observers.specs.Watching.{Seen, has_answer}
use Rattle.vyrd_base.specs.Rules.{Rules}

-- what is kept stands for the open execution of a caller: what was called, and what the states
-- since the call answer
pub record IsWatched (r : Rules) (states : List State) (c : ℕ) (earlier : List Entry)
    (called : Called)
    (seen : Seen) : Type 0 where
  pub is_open : seen.is_open ≡ true
  pub method : seen.method ≡ called.method
  pub args : seen.args ≡ called.args
  pub answers : (reply : ℕ)
      → has_answer seen.answers reply ≡ list_any (λ state.
      r.answer state called.method called.args == reply) (states_since_call states c earlier)

-- The states go on from this one with the commits from the place on, what is called may be called,
-- and each open execution is watched that may still return without a commit.
pub record Reached (r : Rules) (states : List State) (earlier later : List Entry)
    (state : State) (watches : List Seen) : Type 0 where
  pub going : drop (commit_count earlier) states ≡ states_from r state (commits_after earlier later)
  pub allowed : (c : ℕ) (called : Called) → open_call c earlier ≡ Some called
      → has_method r.header called.method called.args ≡ true
  pub watched : (c : ℕ) (called : Called) → c < r.header.callers → open_call c earlier ≡ Some called
      → must_commit called.method ≡ false → has_committed c earlier ≡ false
      → (seen : Seen) × (slice_get watches c ≡ Some seen) × IsWatched r states c earlier called seen
