-- What the entry at a place leads to, by what is kept there.
use Rattle.vyrd_plain.proofs.Prelude
use Prelude.{◌≡◌, ◌⊎◌, inl, inr, ℕ, ◌+◌, Bool, true, false, cond, ◌&&◌, ◌||◌, not, List, [], ◌∷◌}
use Prelude.{take, drop, set, Option, Some, None, Result, slice_get, refl, ap, subst, ◌∙◌, sym}
use Prelude.{◌==◌, option_map, option_and_then, list_any, IfOk, Method, Args, Kind, Call, Return}
use Prelude.{Write, BlockOpen, BlockClose, Entry, StartWord, Why, Reply, View, Observer, Place}
use Prelude.{newest_first, Called, open_call, has_committed, is_observer, must_commit, broken_rule}
use Prelude.{Amounts, first_difference, State, words_at, returned, next_reply, committed_at}
use Prelude.{commits_after, once_returned, state_after, step_fault, commit_fault, fault_of_commit}
use Prelude.{states_since_call, observer_fault, fault_at, states_along, entry, own_answer}
use Prelude.{Execution, Outcome, Goes, Faults, Ends, answers, begun, IsExecution, Tracks, place_of}
use Prelude.{CommitGives, PlaceGives, return_outcome, next_reply-quiet, state_here, ending-commit}
use Prelude.{commit_kept, block_commit_runs, return_free, IfOk-weaker, Rules}
use Rattle.vyrd_base.proofs.CommitLaws.{Commits, alone, with_block, commits_is, commits_called}
use Rattle.vyrd_base.proofs.CommitLaws.{commits_inside, commits_unreturned, commits_uncalled}
use Rattle.vyrd_base.proofs.CommitLaws.{fault_of_commit_kind}
use Rattle.vyrd_plain.proofs.StepLaws.{IsAt, Leads, call_allowed, called_is, leads_for}
use Rattle.vyrd_plain.proofs.TrackingLaws.{tracks_inside, tracks_call, tracks_return, tracks_commit}

-- what is called in the execution
abbrev pub called_in : Execution → Called
called_in x = record { method = x.method; args = x.args }

-- what a commit of a kept execution gives, once it has returned
once_kept : {B : Type 0} (f : Called → ℕ
    → Option B) (r : Rules) (states : List State) (c : ℕ) (kind : Kind) (earlier later : List Entry)
    (x : Execution)
    → returned kind ≡ None → IsExecution r states c earlier (entry c kind ∷ later) x
    → once_returned f (committed_at (place_of (entry c kind) earlier later)) ≡ option_and_then
    (f (called_in x)) x.reply
once_kept f r states c kind earlier later x unreturned is =
    cc (is.called, is.reply, next_reply-quiet c c kind later unreturned)

-- the fault of a commit where the state before it is known
commit_fault_here : (r : Rules) (starting : List StartWord) (states : List State) (c : ℕ)
    (kind : Kind) (earlier later : List Entry) (state : State)
    (executions : List (Option Execution)) (x : Execution) → returned kind ≡ None
    → Tracks r states earlier (entry c kind ∷ later) state executions
    → IsExecution r states c earlier (entry c kind ∷ later) x
    → fault_of_commit r starting states (place_of (entry c kind) earlier later)
    ≡ option_and_then
    (λ reply. step_fault r
    (r.view (words_at r.header starting (place_of (entry c kind) earlier later)))
    (called_in x) reply state) x.reply
commit_fault_here r starting states c kind earlier later state executions x unreturned s is =
    let shown = r.view (words_at r.header starting (place_of (entry c kind) earlier later)) in
    ap (option_and_then
    (commit_fault r shown (committed_at (place_of (entry c kind) earlier later))))
    (state_here r states earlier state (commits_after earlier (entry c kind ∷ later)) s.going)
    ∙ once_kept (λ called reply. step_fault r shown called reply state) r states c kind earlier
    later x unreturned is

-- what a commit leads to, by what its execution and the words show
commit_gives : (r : Rules) (starting : List StartWord) (states : List State) (c : ℕ) (kind : Kind)
    (earlier later : List Entry) (state next : State)
    (executions new : List (Option Execution)) (x : Execution) (shown : Amounts) (o : Outcome)
    → Commits kind → Tracks r states earlier (entry c kind ∷ later) state executions
    → IsExecution r states c earlier (entry c kind ∷ later) x
    → shown ≡ r.view (words_at r.header starting (place_of (entry c kind) earlier later))
    → CommitGives r shown c x state next executions new o
    → PlaceGives r starting states (place_of (entry c kind) earlier later) next new o
commit_gives r starting states c kind earlier later state next executions new x shown o commits s is
    shows gives = by_outcome o gives
  where
    place : Place Entry
    place = place_of (entry c kind) earlier later

    fault_by : ℕ → Option Why
    fault_by reply = step_fault r shown (called_in x) reply state

    next_by : ℕ → Option State
    next_by reply = r.next x.method x.args reply state

    fault : fault_at r starting states place ≡ option_and_then fault_by x.reply
    fault = fault_of_commit_kind r starting states c kind earlier later commits
        ∙ commit_fault_here r starting states c kind earlier later state executions x
        (commits_unreturned kind commits) s is
        ∙ ap (λ v. option_and_then (λ reply. step_fault r v (called_in x) reply state) x.reply)
        (sym shows)

    after : state_after r state (committed_at place) ≡ option_and_then next_by x.reply
    after =
        once_kept (λ called reply. r.next called.method called.args reply state) r states c kind
        earlier later x
        (commits_unreturned kind commits) is

    by_outcome : (o' : Outcome) → CommitGives r shown c x state next executions new o'
        → PlaceGives r starting states place next new o'
    by_outcome Goes g = (
      fault ∙ ap (option_and_then fault_by) g.returned
          ∙ ap (λ n. elim n as (λ _. Option Why) [
            | None ↦ Some (Reply g.reply)
            | Some a ↦ option_map
                View (first_difference shown (r.shown a))
          ]) g.next
          ∙ ap (option_map View) g.same,
      subst (Tracks r states (entry c kind ∷ earlier) later next) (sym g.seen)
          (tracks_commit r states c kind earlier later state next executions x
          (commits_inside kind commits) (commits_unreturned kind commits)
          (commits_uncalled kind commits) (commits_is kind commits) (commits_called kind commits)
          (after ∙ ap (option_and_then next_by) g.returned ∙ g.next) is s),
    )
    by_outcome (Faults why) f = fault ∙ ap (option_and_then fault_by) f.returned ∙ f.fault
    by_outcome Ends none = (
      fault ∙ ap (option_and_then fault_by) none,
      ending-commit r states (entry c kind) earlier later state (commits_is kind commits)
          (after ∙ ap (option_and_then next_by) none) s.going,
    )

-- without a commit the test of a state is whether it answers the reply
same_any : (p q : State → Bool) (xs : List State) → ((s : State) → p s ≡ q s) → list_any p xs
    ≡ list_any q xs
same_any p q [] same = refl
same_any p q (x ∷ xs) same = cc (same x, same_any p q xs same)

-- what a return leads to
return_gives : (r : Rules) (starting : List StartWord) (states : List State) (c reply : ℕ)
    (earlier later : List Entry) (state : State)
    (executions : List (Option Execution)) (x : Execution)
    → broken_rule r.header earlier (entry c (Return reply)) ≡ None
    → Tracks r states earlier (entry c (Return reply) ∷ later) state executions
    → IsExecution r states c earlier (entry c (Return reply) ∷ later) x
    → PlaceGives r starting states (place_of (entry c (Return reply)) earlier later) state
    (set executions c None) (return_outcome x reply)
unfolding fault_at
return_gives r starting states c reply earlier later state executions x kept s is = by_test
    (not x.has_committed && not x.is_answered) fault
  where
    place : Place Entry
    place = place_of (entry c (Return reply)) earlier later

    replies : State → Bool
    replies st = r.answer st x.method x.args == reply

    window : List State
    window = states_since_call states c earlier

    by_window : fault_at r starting states place ≡ observer_fault r window (has_committed c earlier)
        reply (called_in x)
    by_window = cc (
      state_here r states earlier state (commits_after earlier (entry c (Return reply) ∷ later))
          s.going,
      is.called,
    )

    answered : must_commit x.method ≡ false → list_any replies window ≡ x.is_answered
    answered free = same_any replies (answers r x) window
        (λ st. sym (cc (is.reply, own_answer c returned (Return reply) later))) ∙ sym is.answered

    turned : (b : Bool) → cond b None (Some (Observer reply)) ≡ cond (not b) (Some (Observer reply))
        None
    turned true = refl
    turned false = refl

    -- the fault, by what the outcome looks at
    by_commit : (b : Bool) → has_committed c earlier ≡ b
        → cond (b || list_any replies window) None (Some (Observer reply))
        ≡ cond (not b && not x.is_answered) (Some (Observer reply)) None
    by_commit true committed = refl
    by_commit false none =
        cc (
          answered (return_free r.header c reply earlier (called_in x) kept is.called none),
          turned x.is_answered,
        )

    fault : fault_at r starting states place ≡ cond (not x.has_committed && not x.is_answered)
        (Some (Observer reply)) None
    fault = by_window ∙ by_commit (has_committed c earlier) refl
        ∙ ap (λ b. cond (not b && not x.is_answered) (Some (Observer reply)) None)
        (sym is.committed)

    by_test : (b : Bool) → fault_at r starting states place ≡ cond b (Some (Observer reply)) None
        → PlaceGives r starting states place state (set executions c None)
        (cond b (Faults (Observer reply)) Goes)
    by_test true faulty = faulty
    by_test false faultless =
        (faultless, tracks_return r states c reply earlier later state executions s)

-- What the entry at a place leads to, kind by kind.
pub return_leads : {r : Rules} {front : List Entry} {at c reply : ℕ} {state : State}
    {executions : List (Option Execution)} {x : Execution}
    → IsAt r front at (entry c (Return reply)) state executions
    → IsExecution r (states_along r [] front) c (newest_first (take at front))
    (entry c (Return reply) ∷ drop (at + 1) front) x
    → Leads r front at (entry c (Return reply)) state (set executions c None)
    (return_outcome x reply)
return_leads {r} {front} {at} {c} {reply} {state} {executions} {x} here is =
    record { to = return_gives r [] _ c _ _ _ _ _ x here.kept here.tracks is }

pub call_leads : {r : Rules} {front : List Entry} {at c : ℕ} {method : Method} {args : Args}
    {reply : Option ℕ} {state : State}
    {executions : List (Option Execution)} → IsAt r front at (entry c (Call method args)) state
    executions
    → reply ≡ next_reply c (drop (at + 1) front)
    → Leads r front at (entry c (Call method args)) state
    (set executions c (Some (begun r method args reply state))) Goes
unfolding fault_at
call_leads {r} {front} {at} {c} {method} {args} {reply} {state} {executions} here replies =
    record {
      to = (
        refl,
        tracks_call r _ c _ _ _ _ _ _ _ refl refl replies refl refl
            (call_allowed here) here.tracks,
      );
    }

-- a kind of entry that stands in an execution and isn't judged
pub data Quiet : Kind → Type 0 where
  writes : (word value : ℕ) → Quiet (Write word value)
  opens : Quiet BlockOpen
  closes : Quiet BlockClose

pub quiet_by : {kind : Kind} → ((word : ℕ) × (value : ℕ) × (kind ≡ Write word value))
    ⊎ ((kind ≡ BlockOpen) ⊎ (kind ≡ BlockClose)) → Quiet kind
quiet_by (inl write) = subst Quiet (sym write.2) (writes write.0 write.1)
quiet_by (inr (inl is)) = subst Quiet (sym is) opens
quiet_by (inr (inr is)) = subst Quiet (sym is) closes

quiet_gives : (r : Rules) (starting : List StartWord) (states : List State) (c : ℕ) (kind : Kind)
    (earlier later : List Entry) (state : State)
    (executions : List (Option Execution)) → Quiet kind
    → Tracks r states earlier (entry c kind ∷ later) state executions
    → PlaceGives r starting states (place_of (entry c kind) earlier later) state executions Goes
unfolding fault_at
quiet_gives r starting states c _ earlier later state executions (writes word value) s =
    (refl, tracks_inside r _ c _ _ _ _ _ refl refl refl refl refl s)
quiet_gives r starting states c _ earlier later state executions opens s =
    (refl, tracks_inside r _ c _ _ _ _ _ refl refl refl refl refl s)
quiet_gives r starting states c _ earlier later state executions closes s =
    (refl, tracks_inside r _ c _ _ _ _ _ refl refl refl refl refl s)

pub quiet_leads : {r : Rules} {front : List Entry} {at c : ℕ} {kind : Kind} {state : State}
    {executions : List (Option Execution)}
    → Quiet kind → IsAt r front at (entry c kind) state executions
    → Leads r front at (entry c kind) state executions Goes
quiet_leads {r} {front} {at} {c} {kind} {state} {executions} quiet here =
    record { to = quiet_gives r [] _ c _ _ _ _ _ quiet here.tracks }

-- a commit stands in a mutator's execution
pub commit_called : {r : Rules} {front : List Entry} {at c : ℕ} {kind : Kind} {state : State}
    {executions : List (Option Execution)}
    → Commits kind → IsAt r front at (entry c kind) state executions
    → (called : Called) × (open_call c (newest_first (take at front)) ≡ Some called)
    × (is_observer called.method ≡ false)
commit_called {r} {front} {at} {c} alone here = commit_kept r.header c _ here.kept
commit_called {r} {front} {at} {c} with_block here = block_commit_runs r.header c _ here.kept

pub commit_mutates : {r : Rules} {front : List Entry} {at c : ℕ} {kind : Kind} {state : State}
    {executions : List (Option Execution)}
    → Commits kind → IsAt r front at (entry c kind) state executions
    → (x : Execution) → slice_get executions c ≡ Some (Some x) → is_observer x.method ≡ false
commit_mutates commits here x is =
    let called = commit_called commits here in ap is_observer (called_is here called.1 x is)
    ∙ called.2

-- what a commit leads to, by what the judge answered of it
pub commit_leads : {E : Type 0} {r : Rules} {front : List Entry} {at c : ℕ} {kind : Kind}
    {e : Entry} {state : State}
    {executions : List (Option Execution)} {x : Execution} (val : Result Outcome E) (next : State)
    (new : List (Option Execution)) → Commits kind
    → IsAt r front at (entry c kind) state executions
    → IsExecution r (states_along r [] front) c (newest_first (take at front))
    (entry c kind ∷ drop (at + 1) front) x → entry c kind ≡ e
    → IfOk val (CommitGives r
    (r.view (words_at r.header []
    (place_of (entry c kind) (newest_first (take at front)) (drop (at + 1) front)))) c x state next
    executions new)
    → IfOk val (PlaceGives r [] (states_along r [] front)
    (place_of e (newest_first (take at front)) (drop (at + 1) front)) next new)
commit_leads {E} {r} {front} {at} {c} {kind} {e} {state} {executions} {x} val next new commits here
    is same gives =
    IfOk-weaker val (CommitGives r shown c x state next executions new)
    (PlaceGives r [] (states_along r [] front)
    (place_of e (newest_first (take at front)) (drop (at + 1) front)) next new)
    (λ o given. (leads o given).to) gives
  where
    shown : Amounts
    shown = r.view
        (words_at r.header []
        (place_of (entry c kind) (newest_first (take at front)) (drop (at + 1) front)))

    leads : (o : Outcome) → CommitGives r shown c x state next executions new o
        → Leads r front at e next new o
    leads o given = leads_for {d = entry c kind} same (record {
      to = commit_gives r [] (states_along r [] front) c kind (newest_first (take at front))
          (drop (at + 1) front) state next executions new x shown o
          commits here.tracks is refl given;
    })
