-- The log has no fault, so it is accepted.
use Rattle.vyrd_every.proofs.Prelude
use Prelude.{◌≡◌, ℕ, ◌<◌, true, false, List, [], ◌∷◌, ◌++◌, Some, None, length, refl, ap, ◌∙◌}
use Prelude.{filter_map, cons_option, Header, Call, Return, Write, Commit, BlockOpen, BlockClose}
use Prelude.{BlockCommit, Entry, Did, Read, Wrote, Took, Gave, Marked, Stamped, Place, places}
use Prelude.{places_after, first_answer, newest_first_onto, newest_first, front, first_break}
use Prelude.{WellFormed, Amounts, State, start, next_reply, committed_at, commits_after, commits}
use Prelude.{commit_count, fault_of_kind, fault_of_commit, fault_at, ended_words, view_of_words}
use Prelude.{violation_at, states_along, first_fault, shape_verdict, is_call_open, accepted}
use Prelude.{verdict, cells_of, is_legal, logged, log_of, log_entry, entry, same_number, Script}
use Prelude.{stop, answer_of, after_answer, left_after, part_of, script_of, PlayToTheEnd}
use Prelude.{legal_events, caller_low, are_answers, IsRun, newest_log, none_open, all_keep}
use Prelude.{all_rest, first_version_built_in, WillReturn, log_in, rules_of}
use Rattle.vyrd_base.proofs.NoStart.{states_along-none, verdict_so_far-none, end_verdict-none}
use Rattle.vyrd_every.proofs.Answered.{passed_after, commits_now}
use Rattle.vyrd_every.proofs.NextEvent.{Committing, Leading, Returning, run_before}
use Rattle.vyrd_every.proofs.Keeping.{GoesOn, Keeping}
use Rattle.vyrd_every.proofs.Coming.{reply_comes}
use Rattle.vyrd_every.proofs.Reached.{no_break, all_front}
use Rattle.vyrd_every.proofs.VerdictStates.{states_with, later_states, states_begin, state_goes_on}
use Rattle.vyrd_every.proofs.Judged.{commit_is_right, return_is_right}

-- the first fault among the entries to come, with the states that have passed and those to come
abbrev FaultFrom : Header → List Amounts → Amounts → List Entry → List Entry → Type 0
FaultFrom h passed state log logs =
    first_answer
    (violation_at (rules_of h) [] (states_with h passed state (commits_after log logs)))
    (places_after log logs) ≡ None

-- what a place adds
place_adds : (h : Header) (states : List State) (place : Place Entry) (rest : List (Place Entry))
    → fault_of_kind (rules_of h) [] states place place.here.kind ≡ None
    → first_answer (violation_at (rules_of h) [] states) rest ≡ None
    → first_answer (violation_at (rules_of h) [] states) (place ∷ rest) ≡ None
unfolding fault_at
place_adds h states place rest right later = cc

-- an entry that neither commits nor returns
plain_place : (h : Header) (passed : List Amounts) (state next : Amounts) (log logs : List Entry)
    (e : Entry)
    → ((states : List State) → fault_of_kind (rules_of h) [] states
    (record { earlier = log; here = e; later = logs }) e.kind ≡ None)
    → commits_after log (e ∷ logs) ≡ commits_after (e ∷ log) logs → next ≡ state
    → FaultFrom h passed next (e ∷ log) logs → FaultFrom h passed state log (e ∷ logs)
plain_place h passed state next log logs e right same unchanged later =
    place_adds h _ _ _ (right _) (rw same (rw (← unchanged) later))

commit_place : (h : Header) → h.version ≡ 1 → (passed : List Amounts) (state next : Amounts)
    (log logs : List Entry) (e : Entry) (rest : Script)
    → ((states : List State) → fault_of_kind (rules_of h) [] states
    (record { earlier = log; here = e; later = logs }) e.kind
    ≡ fault_of_commit (rules_of h) [] states (record { earlier = log; here = e; later = logs }))
    → commits_after log (e ∷ logs) ≡ committed_at (record { earlier = log; here = e; later = logs })
    ∷ commits_after (e ∷ log) logs
    → WellFormed h (e ∷ log) → view_of_words h (ended_words h (e ∷ log)) ≡ next → length passed
    ≡ commit_count log
    → ((reply : ℕ) → WillReturn reply rest → next_reply e.caller logs ≡ Some reply)
    → Committing e.caller log rest state next
    → FaultFrom h (passed ++ state ∷ []) next (e ∷ log) logs → FaultFrom h passed state log
    (e ∷ logs)
commit_place h one passed state next log logs e rest kind_is goes_on wf m count coming committing
    later =
    place_adds h _ _ _ (kind_is _ ∙ ap (λ states. fault_of_commit (rules_of h) [] states place)
    (states_begin h passed state (commits_after log (e ∷ logs))) ∙ commit_is_right h one passed
    (later_states h state (commits_after log (e ∷ logs))) state _ place committing.called
    committing.reply wf m count committing.is_called (coming _ committing.returns)
    committing.allowed)
    (rw (ap (states_with h passed state) goes_on ∙ state_goes_on h passed state next
    (committed_at place) (commits_after (e ∷ log) logs) committing.called committing.reply
    committing.is_called (coming committing.reply committing.returns) committing.allowed) later)
  where
    place : Place Entry
    place = record { earlier = log; here = e; later = logs }

-- one more event has no fault
event_place : (h : Header) → h.version ≡ 1 → (c : ℕ) (did : Did) (passed : List Amounts)
    (state next : Amounts) (log logs : List Entry) (rest : Script)
    → WellFormed h (cons_option (logged c did) log)
    → view_of_words h (ended_words h (cons_option (logged c did) log)) ≡ next
    → length passed ≡ commit_count log
    → (commits_now did ≡ true → (reply : ℕ) → WillReturn reply rest → next_reply c logs
    ≡ Some reply)
    → Leading c did log rest state next → Returning c did log passed state
    → FaultFrom h (passed_after did passed state) next (cons_option (logged c did) log) logs
    → FaultFrom h passed state log (cons_option (logged c did) logs)
event_place h one c (Read cell value) passed state next log logs rest wf m count coming leading
    returning later = rw (← leading) later
event_place h one c (Took lock) passed state next log logs rest wf m count coming leading returning
    later = rw (← leading) later
event_place h one c (Gave lock) passed state next log logs rest wf m count coming leading returning
    later = rw (← leading) later
event_place h one c (Wrote cell value) passed state next log logs rest wf m count coming leading
    returning later = plain_place h passed state next log logs (entry c _) (λ states. refl) refl
    leading later
event_place h one c (Marked (Call method args)) passed state next log logs rest wf m count coming
    leading returning later = plain_place h passed state next log logs (entry c _)
    (λ states. refl) refl leading later
event_place h one c (Marked (Return reply)) passed state next log logs rest wf m count coming
    leading returning later = place_adds h _
    (record { earlier = log; here = entry c (Return reply); later = logs }) _
    (cc (
      states_begin h passed state
          (commits_after log (entry c (Return reply) ∷ logs)),
      return_is_right h (first_version_built_in h one) passed
          (later_states h state (commits_after log (entry c (Return reply) ∷ logs))) state c log
          reply count wf.1 wf.0 returning,
    )) (rw (← leading) later)
event_place h one c (Marked (Write word value)) passed state next log logs rest wf m count coming
    leading returning later = plain_place h passed state next log logs (entry c _)
    (λ states. refl) refl leading later
event_place h one c (Marked BlockOpen) passed state next log logs rest wf m count coming leading
    returning later = plain_place h passed state next log logs (entry c _) (λ states. refl) refl
    leading later
event_place h one c (Marked BlockClose) passed state next log logs rest wf m count coming leading
    returning later = plain_place h passed state next log logs (entry c _) (λ states. refl) refl
    leading later
event_place h one c (Marked Commit) passed state next log logs rest wf m count coming leading
    returning later = commit_place h one _ _ _ _ _ _ rest (λ states. refl) refl wf m count
    (coming refl) leading later
event_place h one c (Marked BlockCommit) passed state next log logs rest wf m count coming leading
    returning later = commit_place h one _ _ _ _ _ _ rest (λ states. refl) refl wf m count
    (coming refl) leading later

-- a commit is answered by 0
zero_answer : (did : Did) → commits_now did ≡ true → answer_of did ≡ 0
zero_answer (Read cell value) e = cc
zero_answer (Wrote cell value) e = refl
zero_answer (Took lock) e = refl
zero_answer (Gave lock) e = refl
zero_answer (Marked kind) e = refl

-- what was run of a longer history was run before
pub run_so_far : (h : Header) (scripts : List Script) (earlier xs : List Stamped)
    → IsRun h scripts (newest_first_onto earlier xs) → IsRun h scripts earlier
run_so_far h scripts earlier [] run = run
run_so_far h scripts earlier (e ∷ xs) run = run_before h scripts e earlier
    (run_so_far h scripts (e ∷ earlier) xs run)

-- each caller is at its end
abbrev pub AreDone : Header → List Script → List Stamped → Type 0
AreDone h scripts earlier = (c : ℕ) → c < h.callers → left_after (script_of scripts c)
    (part_of c earlier) ≡ stop

-- from any moment on there is no fault
no_fault_from : (h : Header) → h.version ≡ 1 → (scripts : List Script) (k : Keeping h scripts)
    (earlier xs : List Stamped) (passed : List Amounts) (state : Amounts)
    → IsRun h scripts (newest_first_onto earlier xs)
    → AreDone h scripts (newest_first_onto earlier xs) → k.Holds earlier passed state
    → FaultFrom h passed state (log_in earlier) (filter_map log_entry xs)
no_fault_from h one scripts k earlier [] passed state run done holds = refl
no_fault_from h one scripts k earlier (e ∷ xs) passed state run done holds =
    go (k.goes_on earlier e.number e.caller e.did passed state now holds)
    (λ passed' state' holds'. no_fault_from h one scripts k (e ∷ earlier) xs passed' state' run done
    holds')
  where
    now : IsRun h scripts (e ∷ earlier)
    now = run_so_far h scripts (e ∷ earlier) xs run

    low : e.caller < h.callers
    low = caller_low (cells_of h) earlier e now.legal.0

    go : GoesOn k.Holds scripts earlier e.number e.caller e.did passed state
        → ((passed' : List Amounts) (state' : Amounts) → k.Holds (e ∷ earlier) passed' state'
        → FaultFrom h passed' state' (log_in (e ∷ earlier)) (filter_map log_entry xs))
        → FaultFrom h passed state (log_in earlier)
        (cons_option (logged e.caller e.did) (filter_map log_entry xs))
    go next later =
        event_place h one e.caller e.did passed state next.next (log_in earlier)
        (filter_map log_entry xs)
        (after_answer (left_after (script_of scripts e.caller) (part_of e.caller earlier)) 0)
        (k.kept (e ∷ earlier) (passed_after e.did passed state) next.next next.holds_now)
        (k.view (e ∷ earlier) (passed_after e.did passed state) next.next now next.holds_now)
        (k.count earlier passed state holds) coming
        next.leading next.returning
        (later (passed_after e.did passed state) next.next next.holds_now)
      where
        coming : commits_now e.did ≡ true → (reply : ℕ)
            → WillReturn reply
            (after_answer (left_after (script_of scripts e.caller) (part_of e.caller earlier)) 0)
            → next_reply e.caller (filter_map log_entry xs) ≡ Some reply
        coming commits reply will =
            reply_comes e.caller (script_of scripts e.caller) (e ∷ earlier) xs reply
            (rw (same_number e.caller)
            (rw (zero_answer e.did commits) will))
            (run.plays e.caller)
            (are_answers (cells_of h) (newest_first_onto earlier (e ∷ xs)) e.caller run.legal)
            (done e.caller low)

-- the log has no fault
pub no_fault : (h : Header) → h.version ≡ 1 → (scripts : List Script) (k : Keeping h scripts)
    (history : List Stamped) → IsRun h scripts (newest_first history)
    → AreDone h scripts (newest_first history) → first_fault (rules_of h) []
    (front h (log_of history)) ≡ None
unfolding first_fault commits log_of
no_fault h one scripts k history run done =
    ap (λ es. first_answer (violation_at (rules_of h) [] (states_along (rules_of h) [] es))
    (places es)) (all_front h scripts k history run)
    ∙ ap (λ states. first_answer (violation_at (rules_of h) [] states) (places (log_of history)))
    (states_along-none h (log_of history))
    ∙ no_fault_from h one scripts k [] history [] start.shown run done k.begins

-- a legal history in which the scripts are played to their end is a run
pub whole_run : (h : Header) (scripts : List Script) (history : List Stamped)
    → is_legal (cells_of h) history ≡ true → PlayToTheEnd scripts history
    → IsRun h scripts (newest_first history)
whole_run h scripts history legal played =
    record { legal = legal_events (cells_of h) history legal; plays = λ c. (played c).plays }

-- so the log is accepted
by_parts : (h : Header) (entries : List Entry) → first_fault (rules_of h) [] (front h entries)
    ≡ None → first_break h entries ≡ None
    → is_call_open h (newest_first entries) ≡ false → verdict (rules_of h) [] entries
    ≡ accepted entries
unfolding verdict shape_verdict
by_parts h entries fault broken closed =
    cc (verdict_so_far-none h entries, end_verdict-none h entries)

-- no execution is open at the end
pub none_open_at_end : (h : Header) (scripts : List Script) (k : Keeping h scripts)
    (history : List Stamped) → is_legal (cells_of h) history ≡ true
    → PlayToTheEnd scripts history → is_call_open h (newest_first (log_of history)) ≡ false
none_open_at_end h scripts k history legal played =
    let run : IsRun h scripts (newest_first history) = whole_run h scripts history legal played in
    ap (is_call_open h) (newest_log history)
    ∙ none_open h (newest_first history) (all_keep h scripts history k.sound run.legal played)
    (all_rest h scripts history k.sound run.legal played)

pub is_accepted : (h : Header) → h.version ≡ 1 → (scripts : List Script) (k : Keeping h scripts)
    (history : List Stamped) → is_legal (cells_of h) history ≡ true
    → PlayToTheEnd scripts history → verdict (rules_of h) [] (log_of history)
    ≡ accepted (log_of history)
is_accepted h one scripts k history legal played =
    let run : IsRun h scripts (newest_first history) = whole_run h _ history legal played in
    by_parts h _ (no_fault h one _ k _ run (λ c low. (played c).done)) (no_break h _ k _ run)
    (none_open_at_end h _ k _ legal played)
