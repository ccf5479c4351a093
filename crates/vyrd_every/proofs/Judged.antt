-- No commit is a fault, and no observer's return is one.
use Rattle.vyrd_every.proofs.Prelude
use Prelude.{◌≡◌, ℕ, Bool, true, false, cond, ◌||◌, List, [], ◌∷◌, ◌++◌, map, Option, Some, None}
use Prelude.{length, refl, ◌∙◌, sym, ◌==◌, filter, slice_get, option_and_then, option_and, list_any}
use Prelude.{not-false, Header, Entry, Return, Observer, Place, Called, open_call, has_committed}
use Prelude.{entries_before_call, is_observer, is_built_in, Amounts, least, first_difference, State}
use Prelude.{showing, next_state, answer_in, ended_words, WellFormed, first_words_at, view_of_words}
use Prelude.{next_reply, commit_count, states_since_call, observer_fault, return_fault}
use Prelude.{fault_of_commit, entry, returns_committed, same_number, has_answer, rules_of}
use Rattle.vyrd_base.specs.Shape.{broken_rule, is_observing}
use Rattle.vyrd_every.proofs.VerdictStates.{state_here, states_seen, any_showing}

-- a state differs from itself nowhere
none_kept : (p : ℕ → Bool) (xs : List ℕ) → ((x : ℕ) → p x ≡ false) → filter p xs ≡ []
none_kept p [] none = refl
none_kept p (x ∷ xs) none = cc (none x, none_kept p xs none)

no_difference : (state : Amounts) → first_difference state state ≡ None
no_difference state = simp (least, none_kept, same_number)

-- a commit after which the words show the next state isn't a fault
pub commit_is_right : (h : Header) → h.version ≡ 1 → (passed : List Amounts) (later : List State)
    (state next : Amounts) (place : Place Entry) (called : Called)
    (reply : ℕ) → WellFormed h (place.here ∷ place.earlier)
    → view_of_words h (ended_words h (place.here ∷ place.earlier)) ≡ next
    → length passed ≡ commit_count place.earlier
    → open_call place.here.caller place.earlier ≡ Some called
    → next_reply place.here.caller place.later ≡ Some reply
    → next_state called.method called.args reply state ≡ Some next
    → fault_of_commit (rules_of h) [] (map showing passed ++ showing state ∷ later) place ≡ None
commit_is_right h one passed later state next place called reply wf shows count call returns
    allowed = cc (
      state_here passed later state (commit_count place.earlier) count,
      first_words_at h
          place one wf,
      no_difference next,
    )

-- an observer's return with an answer that was seen isn't a fault
and_none : {A B : Type 0} (o : Option A) → option_and {T = A} {U = B} o None ≡ None
and_none None = refl
and_none (Some x) = refl

pub return_is_right : (h : Header) → is_built_in h.subject ≡ true
    → (passed : List Amounts) (later : List State) (state : Amounts) (c : ℕ) (log : List Entry)
    (reply : ℕ)
    → length passed ≡ commit_count log
    → WellFormed h log → broken_rule h log (entry c (Return reply)) ≡ None
    → ((called : Called) → open_call c log ≡ Some called → is_observer called.method ≡ true
    → has_answer (passed ++ state ∷ []) (commit_count (entries_before_call c log)) called reply
    ≡ true)
    → return_fault (rules_of h) (map showing passed ++ showing state ∷ later) c log reply ≡ None
return_is_right h built passed later state c log reply count wf kept seen =
    cc (by_call (open_call c log) refl, and_none (slice_get states (commit_count log)))
  where
    states : List State
    states = map showing passed ++ showing state ∷ later

    -- whether a state in the window has the answer
    in_window : (called : Called)
        → list_any (λ s. answer_in s.shown called.method called.args == reply)
        (states_since_call states c log)
        ≡ has_answer (passed ++ state ∷ []) (commit_count (entries_before_call c log)) called reply
    in_window called = simp (states_seen, passed, count, any_showing)

    -- an execution without a commit is an observer's
    observes : (called : Called) → open_call c log ≡ Some called → has_committed c log ≡ false
        → is_observer called.method ≡ true
    observes called e none = cc (not-false (is_observing c log) (sym (returns_committed h c reply
        log built wf kept) ∙ none))

    by_commit : (called : Called) → open_call c log ≡ Some called → (b : Bool) → has_committed c log
        ≡ b
        → cond (b || list_any (λ s. answer_in s.shown called.method called.args == reply)
        (states_since_call states c log)) None (Some (Observer reply))
        ≡ None
    by_commit called e false none = cc (in_window called, seen called e (observes called e none))
    by_commit called e true committed = refl

    by_call : (o : Option Called) → open_call c log ≡ o
        → option_and_then (observer_fault (rules_of h) (states_since_call states c log)
        (has_committed c log) reply) o ≡ None
    by_call None e = refl
    by_call (Some called) e = by_commit called e (has_committed c log) refl
