-- The fault at a place that is reached, and what is reached after it.
use Rattle.vyrd_judge.proofs.Prelude
use Prelude.{◌≡◌, ℕ, ◌≤◌, true, false, cond, ◌||◌, List, ◌∷◌, length, Option, Some, None, ap, ◌∙◌}
use Prelude.{sym, ◌==◌, option_map, option_and_then, list_any, Kind, Return, Entry, StartWord, Why}
use Prelude.{Reply, View, Observer, Called, open_call, has_committed, Amounts, first_difference}
use Prelude.{State, words_at, next_reply, committed_at, commits_after, commit_count, state_after}
use Prelude.{step_fault, states_since_call, observer_fault, fault_at, entry, place_of, Seen}
use Prelude.{has_answer, IsWatched, Reached, AllSee, Rules}
use Rattle.vyrd_base.proofs.CommitLaws.{Commits, commits_is, commits_called, commits_inside}
use Rattle.vyrd_base.proofs.CommitLaws.{commits_uncalled, fault_of_commit_kind}
use Rattle.vyrd_base.proofs.StateLaws.{state_here, ending-commit}
use Rattle.vyrd_judge.proofs.Reaching.{OthersStay, reached_commit}

-- what the words show at a commit
abbrev pub shown_there : Rules → List StartWord → ℕ → Kind → List Entry → List Entry → Amounts
shown_there r starting c kind earlier later = r.view
    (words_at r.header starting (place_of (entry c kind) earlier later))

-- the fault of a commit that is reached
pub commit_fault_at : (r : Rules) (starting : List StartWord) (states : List State) (c : ℕ)
    (kind : Kind) (earlier later : List Entry) (state : State) (watches : List Seen)
    (called : Called) (o : Option ℕ) → Commits kind → open_call c earlier ≡ Some called
    → next_reply c later ≡ o
    → Reached r states earlier (entry c kind ∷ later) state watches
    → fault_at r starting states (place_of (entry c kind) earlier later)
    ≡ option_and_then
    (λ reply. step_fault r (shown_there r starting c kind earlier later) called reply state) o
commit_fault_at r starting states c kind earlier later state watches called o commits opened replied
    val = cc (
      fault_of_commit_kind r starting states c kind earlier later commits,
      state_here r
          states earlier state (commits_after earlier (entry c kind ∷ later)) val.going,
    )

-- the state after a commit that is reached
state_after_at : (r : Rules) (c : ℕ) (kind : Kind) (earlier later : List Entry) (state : State)
    (called : Called) (o : Option ℕ)
    → open_call c earlier ≡ Some called → next_reply c later ≡ o
    → state_after r state (committed_at (place_of (entry c kind) earlier later))
    ≡ option_and_then (λ reply. r.next called.method called.args reply state) o
state_after_at r c kind earlier later state called o opened replied = cc

abbrev pub by_next : Rules → Amounts → ℕ → Option State → Option Why
by_next r shown reply o =
    elim o as (λ _. Option Why) [
      | None ↦ Some (Reply reply)
      | Some after ↦ option_map View
          (first_difference shown (r.shown after))
    ]

-- a commit that is right
pub commit_right : (r : Rules) (starting : List StartWord) (states : List State) (c : ℕ)
    (kind : Kind) (earlier later : List Entry) (state next : State)
    (watches closed new : List Seen) (called : Called) (reply : ℕ) → Commits kind
    → open_call c earlier ≡ Some called → next_reply c later ≡ Some reply
    → r.next called.method called.args reply state ≡ Some next
    → first_difference (shown_there r starting c kind earlier later) (r.shown next) ≡ None
    → OthersStay c watches closed → AllSee (r.answer next) closed new → Reached r states earlier
    (entry c kind ∷ later) state watches
    → (fault_at r starting states (place_of (entry c kind) earlier later) ≡ None)
    × Reached r states (entry c kind ∷ earlier) later next new
commit_right r starting states c kind earlier later state next watches closed new called reply
    commits opened replied after same others see val = (
      commit_fault_at r _ _ c _ _ _ state watches called (Some _) commits opened replied val
          ∙ ap (by_next r _ reply) after ∙ ap (option_map _) same,
      reached_commit r _ c _ _ _ state _ watches closed _ (commits_inside _ commits)
          (commits_uncalled _ commits) (commits_is _ commits) (commits_called _ commits)
          (state_after_at r c kind _ _ _ called (Some _) opened replied ∙ after) others see val,
    )

-- a commit whose execution hasn't returned
pub commit_waits : (r : Rules) (starting : List StartWord) (states : List State) (c : ℕ)
    (kind : Kind) (earlier later : List Entry) (state : State) (watches : List Seen)
    (called : Called) → Commits kind → open_call c earlier ≡ Some called → next_reply c later ≡ None
    → Reached r states earlier (entry c kind ∷ later) state watches
    → (fault_at r starting states (place_of (entry c kind) earlier later) ≡ None)
    × (length states ≤ commit_count (entry c kind ∷ earlier))
commit_waits r starting states c kind earlier later state watches called commits opened replied
    val = (
      commit_fault_at r _ _ c _ _ _ state watches called None commits opened replied
          val,
      ending-commit r _ (entry c _) earlier later state (commits_is _ commits)
          (state_after_at r c kind _ _ _ called None opened replied) val.going,
    )

-- the fault of a return that is reached
return_fault_at : (r : Rules) (starting : List StartWord) (states : List State) (c reply : ℕ)
    (earlier later : List Entry) (state : State) (watches : List Seen)
    (called : Called) → open_call c earlier ≡ Some called → Reached r states earlier
    (entry c (Return reply) ∷ later) state watches
    → fault_at r starting states (place_of (entry c (Return reply)) earlier later)
    ≡ observer_fault r (states_since_call states c earlier) (has_committed c earlier) reply called
unfolding fault_at
return_fault_at r starting states c reply earlier later state watches called opened val =
    cc (state_here r states earlier state (commits_after earlier (entry c (Return reply) ∷ later))
    val.going)

-- a return without a commit, by what is kept of its execution
pub observer_at : (r : Rules) (starting : List StartWord) (states : List State) (c reply : ℕ)
    (earlier later : List Entry) (state : State) (watches : List Seen)
    (called : Called) (seen : Seen) → open_call c earlier ≡ Some called → has_committed c earlier
    ≡ false
    → IsWatched r states c earlier called seen
    → Reached r states earlier (entry c (Return reply) ∷ later) state watches
    → fault_at r starting states (place_of (entry c (Return reply)) earlier later)
    ≡ cond (has_answer seen.answers reply) None (Some (Observer reply))
observer_at r starting states c reply earlier later state watches called seen opened none is val =
    return_fault_at r starting states c reply earlier later state watches called opened val
    ∙ ap (λ b. cond (b || list_any (λ s. r.answer s called.method called.args == reply)
    (states_since_call states c earlier)) None (Some (Observer reply))) none
    ∙ ap (λ b. cond b None (Some (Observer reply))) (sym (is.answers reply))

-- a return of an execution that has a commit
pub return_committed_at : (r : Rules) (starting : List StartWord) (states : List State)
    (c reply : ℕ) (earlier later : List Entry) (state : State) (watches : List Seen)
    (called : Called) → open_call c earlier ≡ Some called → has_committed c earlier ≡ true
    → Reached r states earlier (entry c (Return reply) ∷ later) state watches
    → fault_at r starting states (place_of (entry c (Return reply)) earlier later) ≡ None
return_committed_at r starting states c reply earlier later state watches called opened committed
    val =
    cc (return_fault_at r starting states c reply earlier later state watches called opened val)
