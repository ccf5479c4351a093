-- What the entry that waits first leads to, by its event.
use Rattle.vyrd_judge.proofs.Prelude
use Prelude.{◌≡◌, ℕ, ◌+◌, ◌<◌, ◌≤◌, true, false, cond, List, [], ◌∷◌, ◌++◌, length, Option, Some}
use Prelude.{None, slice_get, refl, ap, subst, ◌∙◌, sym, arith, append-nil, option_map, option_or}
use Prelude.{same_Some, length-newest_first_onto, Header, Method, Args, Kind, Call, Return, Entry}
use Prelude.{StartWord, Why, Observer, Violation, places_after, first_answer, Called, open_call}
use Prelude.{is_observer, must_commit, broken_rule, words_at, words_with, effects, first_difference}
use Prelude.{State, is_commit, commit_count, step_fault, fault_at, line_of, violation_at}
use Prelude.{first_fault, states_along, entry, next_reply_stays, no_fault_beyond, IsReturned}
use Prelude.{words_at_stay, caller_kept, with_writes, Waiting, effect_parts, AllActAlike}
use Prelude.{has_method, place_of, Seen, has_answer, unwatched, IsWatched, Reached, AreCurrent}
use Prelude.{AllSee, answers_of, Judged, AreSeenFew, call_kept, commit_kept, block_commit_runs}
use Prelude.{return_kept, return_free, AreFormed, Rules}
use Rattle.vyrd_judge.proofs.AnswerLaws.{begun_answers, seen_changed, seen_closed, seen_commit}
use Rattle.vyrd_judge.proofs.AlikeLaws.{Split, has_parts_next}
use Rattle.vyrd_base.proofs.CommitLaws.{alone, with_block, commits_is, Commits as Committing}
use Rattle.vyrd_judge.proofs.Reaching.{OthersStay, reached_begins, reached_return}
use Rattle.vyrd_judge.proofs.ReachedFaults.{commit_fault_at, commit_right, commit_waits}
use Rattle.vyrd_judge.proofs.ReachedFaults.{observer_at}
use Rattle.vyrd_judge.proofs.WaitingLaws.{IsBegin, IsCommit, IsReturn}
use Rattle.vyrd_judge.proofs.JudgedLaws.{AtHead, Onward, parts_on, parts_at, judged_next}
use Rattle.vyrd_judge.proofs.JudgedLaws.{judged_fault}
use Rattle.vyrd_judge.proofs.ShownLaws.{commit_shows}

-- what a place leads to, by another name of its entry
onward_as : {r : Rules} {starting : List StartWord} {log : List Entry} {d e : Entry}
    {earlier later : List Entry} {state : State} {watches : List Seen}
    → d ≡ e → Onward r starting log d earlier later state watches
    → Onward r starting log e earlier later state watches
onward_as {r} {starting} {log} {d} {e} {earlier} {later} {state} {watches} same on = grind arith

named : (e : Entry) (kind : Kind) → e.kind ≡ kind → entry e.caller kind ≡ e
named e kind is = ap (entry e.caller) (sym is)

-- an entry that isn't a commit needs no return
no_return : (c : ℕ) (kind : Kind) (later : List Entry) → is_commit kind ≡ false
    → IsReturned c kind later
no_return c kind later isnt = grind (arith, isnt)

-- an execution begins that may return without a commit
pub head_begins : {r : Rules} {starting : List StartWord} {log : List Entry} {state : State}
    {made : ℕ} {watches : List Seen} (new : List Seen) {x : Waiting}
    {xs : List Waiting} {first : List ℕ} {since : List (List (ℕ × ℕ))} {method : Method}
    {args : Args} (at : AtHead r starting log state made watches x xs first since)
    → IsBegin at.here at.earlier x method args → OthersStay x.caller watches new
    → slice_get new x.caller
    ≡ Some (record {
      is_open = true;
      method = method;
      args = args;
      answers = r.answer state method args ∷ [];
    })
    → AreCurrent (r.answer state) new → Judged r starting log state made new xs first since
unfolding fault_at
head_begins {r} {starting} {log} {state} {made} {watches} new {x} {xs} {first} {since} {method}
    {args} at is others here current =
    judged_next r starting log state state made made watches new x xs first first since since at
    (no_return at.here.caller at.here.kind at.later (ap is_commit is.kind))
    (parts_on r.header starting first since at.here at.earlier at.later (ap is_commit is.kind)
    at.judged.parts) (omega arith) current
    (subst (λ e. AreSeenFew (e ∷ at.earlier) new) (named at.here (Call method args) is.kind)
    (seen_changed at.here.caller (Call method args) at.earlier watches new
    (subst (λ c. OthersStay c watches new) is.caller others) own at.judged.seen_few))
    at.judged.shows
    (onward_as (named at.here (Call method args) is.kind) (record {
      fault = λ more. refl;
      reached = λ more. reached_begins r (states_along r starting (log ++ more)) at.here.caller
          method args at.earlier (at.later ++ more) state watches new
          may (subst (λ c. OthersStay c watches new) is.caller others)
          (ap (slice_get new) (sym is.caller) ∙ here)
          (subst (λ e. Reached r (states_along r starting (log ++ more)) at.earlier
          (e ∷ at.later ++ more) state watches) (sym (named at.here (Call method args) is.kind))
          (at.judged.reached more));
    }))
  where
    one : Seen
    one = record {
      is_open = true;
      method = method;
      args = args;
      answers = r.answer state method args ∷ [];
    }

    own : (seen : Seen) → slice_get new at.here.caller ≡ Some seen
        → length seen.answers ≤ answers_of at.here.caller
        (entry at.here.caller (Call method args) ∷ at.earlier)
    own seen there =
        let is_one : one ≡ seen = same_Some _ _ (sym here ∙ ap (slice_get new) is.caller ∙ there) in
        let same = ap (λ (s : Seen). length s.answers) is_one in
        let begun = begun_answers at.here.caller method args at.earlier is.free in
        omega (arith, same, begun)

    may : has_method r.header method args ≡ true
    may = call_kept r.header at.here.caller method args at.earlier
        (subst (λ e. broken_rule r.header at.earlier e ≡ None)
        (sym (named at.here (Call method args) is.kind)) at.keeps)

pub begin_fits : {r : Rules} {starting : List StartWord} {log : List Entry} {state : State}
    {made : ℕ} {watches : List Seen} {x : Waiting} {xs : List Waiting}
    {first : List ℕ} {since : List (List (ℕ × ℕ))} {method : Method} {args : Args}
    (at : AtHead r starting log state made watches x xs first since)
    → IsBegin at.here at.earlier x method args → has_method r.header method args ≡ true
begin_fits e0 e1 = grind (arith, call_kept, named)

-- the caller is one of the header's
pub head_caller : {r : Rules} {starting : List StartWord} {log : List Entry} {state : State}
    {made : ℕ} {watches : List Seen} {x : Waiting} {xs : List Waiting}
    {first : List ℕ} {since : List (List (ℕ × ℕ))}
    (at : AtHead r starting log state made watches x xs first since) → x.caller ≡ at.here.caller
    → x.caller < r.header.callers
head_caller {r} at same = grind (arith, caller_kept r.header at.earlier at.here at.keeps)

-- what was called in an execution that returns without a commit
returning : {r : Rules} {starting : List StartWord} {log : List Entry} {state : State} {made : ℕ}
    {watches : List Seen} {x : Waiting}
    {xs : List Waiting} {first : List ℕ} {since : List (List (ℕ × ℕ))} {reply : ℕ}
    (at : AtHead r starting log state made watches x xs first since)
    → IsReturn at.here at.earlier x reply
    → (called : Called) × (open_call at.here.caller at.earlier ≡ Some called)
    × (must_commit called.method ≡ false)
returning e0 e1 = search (named, return_kept, return_free, arith)

-- the watch of an execution that returns without a commit, however the log goes on
watch_of : {r : Rules} {starting : List StartWord} {log : List Entry} {state : State} {made : ℕ}
    {watches : List Seen} {x : Waiting}
    {xs : List Waiting} {first : List ℕ} {since : List (List (ℕ × ℕ))} {reply : ℕ} (seen : Seen)
    (at : AtHead r starting log state made watches x xs first since)
    (is : IsReturn at.here at.earlier x reply) → slice_get watches x.caller ≡ Some seen
    → (more : List Entry)
    → IsWatched r (states_along r starting (log ++ more)) at.here.caller at.earlier
    (returning at is).0 seen
watch_of {r} {starting} {log} {watches = watches} {x} seen at is here more =
    let call = returning at is in
    let kept = (at.judged.reached more).watched at.here.caller call.0
    (caller_kept r.header at.earlier at.here at.keeps) call.1 call.2 is.none in
    rw (← same_Some _ _ (sym kept.1 ∙ ap (slice_get watches) (sym is.caller) ∙ here)) kept.2

return_fault : {r : Rules} {starting : List StartWord} {log : List Entry} {state : State} {made : ℕ}
    {watches : List Seen} {x : Waiting}
    {xs : List Waiting} {first : List ℕ} {since : List (List (ℕ × ℕ))} {reply : ℕ} (seen : Seen)
    (at : AtHead r starting log state made watches x xs first since)
    (is : IsReturn at.here at.earlier x reply) → slice_get watches x.caller ≡ Some seen
    → (more : List Entry)
    → fault_at r starting (states_along r starting (log ++ more))
    (place_of (entry at.here.caller (Return reply)) at.earlier (at.later ++ more))
    ≡ cond (has_answer seen.answers reply) None (Some (Observer reply))
return_fault {r} {starting} {log} {state} {watches = watches} {reply = reply} seen at is here more =
    let call = returning at is in
    observer_at r starting (states_along r starting (log ++ more)) at.here.caller reply at.earlier
    (at.later ++ more) state watches call.0 seen call.1 is.none
    (watch_of seen at is here more)
    (rw (named at.here (Return reply) is.kind)
    (at.judged.reached more))

pub head_answered : {r : Rules} {starting : List StartWord} {log : List Entry} {state : State}
    {made : ℕ} {watches : List Seen} (new : List Seen) {x : Waiting}
    {xs : List Waiting} {first : List ℕ} {since : List (List (ℕ × ℕ))} {reply : ℕ} (seen : Seen)
    (at : AtHead r starting log state made watches x xs first since)
    → IsReturn at.here at.earlier x reply → slice_get watches x.caller ≡ Some seen
    → has_answer seen.answers reply ≡ true
    → OthersStay x.caller watches new → slice_get new x.caller ≡ Some unwatched
    → AreCurrent (r.answer state) new → Judged r starting log state made new xs first since
head_answered {r} {starting} {log} {state} {made} {watches} new {x} {xs} {first} {since} {reply}
    seen at is here answered others closed current =
    judged_next r starting log state state made made watches new x xs first first since since at
    (no_return at.here.caller at.here.kind at.later (ap is_commit is.kind))
    (parts_on r.header starting first since at.here at.earlier at.later (ap is_commit is.kind)
    at.judged.parts) (omega arith) current
    (rw (← named at.here (Return reply) is.kind)
    (seen_changed at.here.caller (Return reply) at.earlier watches new
    (rw (← is.caller) others)
    (seen_closed at.here.caller new _ (ap (slice_get new) (sym is.caller) ∙ closed))
    at.judged.seen_few))
    at.judged.shows
    (onward_as (named at.here (Return reply) is.kind) (record {
      fault = λ more. cc (return_fault seen at is here more);
      reached = λ more. reached_return r (states_along r starting (log ++ more)) at.here.caller
          reply at.earlier (at.later ++ more) state watches new
          (rw (← is.caller) others)
          (rw (named at.here (Return reply) is.kind)
          (at.judged.reached more));
    }))

-- a fault that doesn't depend on how the log goes on
fault_now : {r : Rules} {starting : List StartWord} {log : List Entry} {state : State} {made : ℕ}
    {watches : List Seen} {x : Waiting}
    {xs : List Waiting} {first : List ℕ} {since : List (List (ℕ × ℕ))} (why : Why) (e : Entry)
    (at : AtHead r starting log state made watches x xs first since)
    → e ≡ at.here → x.position ≡ length at.earlier
    → ((more : List Entry) → fault_at r starting (states_along r starting (log ++ more))
    (place_of e at.earlier (at.later ++ more)) ≡ Some why)
    → first_fault r starting log ≡ Some (Violation (line_of starting x.position) why)
fault_now {r} {starting} {log} {state} {made} {watches} {x} {xs} {first} {since} why e at same
    position fault = cc (judged_fault r starting log state made watches x xs first since why at
    (cc (append-nil at.later, append-nil log, fault [])))

pub head_unanswered : {r : Rules} {starting : List StartWord} {log : List Entry} {state : State}
    {made : ℕ} {watches : List Seen} {x : Waiting}
    {xs : List Waiting} {first : List ℕ} {since : List (List (ℕ × ℕ))} {reply : ℕ} (seen : Seen)
    (at : AtHead r starting log state made watches x xs first since)
    → IsReturn at.here at.earlier x reply → slice_get watches x.caller ≡ Some seen
    → has_answer seen.answers reply ≡ false
    → first_fault r starting log ≡ Some (Violation (line_of starting x.position) (Observer reply))
head_unanswered {reply = reply} seen at is here unanswered =
    fault_now (Observer reply) (entry at.here.caller (Return reply)) at
    (named at.here (Return reply) is.kind) is.position
    (λ more. cc (return_fault seen at is here more))

-- a commit stands in a mutator's execution
commit_runs : (h : Header) (c : ℕ) (earlier : List Entry) (kind : Kind) → Committing kind
    → broken_rule h earlier (entry c kind) ≡ None
    → (called : Called) × (open_call c earlier ≡ Some called) × (is_observer called.method ≡ false)
commit_runs h c earlier _ alone keeps = commit_kept h c earlier keeps
commit_runs h c earlier _ with_block keeps = block_commit_runs h c earlier keeps

pub record CommitFits (h : Header) (method : Method) (args : Args) : Type 0 where
  pub may : has_method h method args ≡ true
  pub mutates : is_observer method ≡ false

pub commit_fits : {r : Rules} {starting : List StartWord} {log : List Entry} {state : State}
    {made : ℕ} {watches : List Seen} {x : Waiting} {xs : List Waiting}
    {first : List ℕ} {since : List (List (ℕ × ℕ))} {method : Method} {args : Args} {o : Option ℕ}
    (at : AtHead r starting log state made watches x xs first since)
    → IsCommit at.here at.earlier at.later x method args o → CommitFits r.header method args
commit_fits {r} {method = method} {args = args} at is =
    let runs = commit_runs r.header at.here.caller at.earlier at.here.kind is.commits at.keeps in
    let same : runs.0 ≡ record { method = method; args = args } = same_Some _ _
    (sym runs.1 ∙ is.opened) in
    record {
      may = (at.judged.reached []).allowed at.here.caller (record { method = method; args = args })
          is.opened;
      mutates = ap (λ k. is_observer k.method) (sym same) ∙ runs.2;
    }

-- the words at a commit are those that wait first, and the next ones wait after them
words_here : {r : Rules} {starting : List StartWord} {log : List Entry} {state : State} {made : ℕ}
    {watches : List Seen} {x : Waiting} {xs : List Waiting}
    {first : List ℕ} {since : List (List (ℕ × ℕ))} {method : Method} {args : Args} {o : Option ℕ}
    (at : AtHead r starting log state made watches x xs first since)
    → IsCommit at.here at.earlier at.later x method args o
    → (first ≡ words_at r.header starting (place_of at.here at.earlier at.later))
    × AllActAlike since (effect_parts [] (at.here ∷ at.earlier) at.later)
unfolding words_at
words_here at e1 = search (parts_at, commits_is, arith)

pub split_here : {r : Rules} {starting : List StartWord} {log : List Entry} {state : State}
    {made : ℕ} {watches : List Seen} {x : Waiting} {xs : List Waiting}
    {first : List ℕ} {since : List (List (ℕ × ℕ))} {method : Method} {args : Args} {o : Option ℕ}
    (at : AtHead r starting log state made watches x xs first since)
    → IsCommit at.here at.earlier at.later x method args o
    → Split r.header starting first since
    (effect_parts (effects (at.here ∷ at.earlier) at.later) (at.here ∷ at.earlier) at.later)
unfolding words_at
split_here at e1 = search (words_here, has_parts_next, arith)

-- once the commit has returned, these stay the words there
words_stay : {r : Rules} {starting : List StartWord} {log : List Entry} {state : State} {made : ℕ}
    {watches : List Seen} {x : Waiting} {xs : List Waiting}
    {first : List ℕ} {since : List (List (ℕ × ℕ))} {method : Method} {args : Args} {reply : ℕ}
    (at : AtHead r starting log state made watches x xs first since)
    → IsCommit at.here at.earlier at.later x method args (Some reply) → (more : List Entry)
    → words_at r.header starting (place_of at.here at.earlier (at.later ++ more)) ≡ first
words_stay {r} {starting} {reply = reply} at is more = words_at_stay _ _ _ more
    (λ commits. (reply, is.replies)) at.judged.settled ∙ sym (words_here at is).0

-- the fault that a commit shows
pub head_faults : {r : Rules} {starting : List StartWord} {log : List Entry} {state : State}
    {made : ℕ} {watches : List Seen} {x : Waiting} {xs : List Waiting}
    {first : List ℕ} {since : List (List (ℕ × ℕ))} {method : Method} {args : Args} {reply : ℕ}
    (why : Why)
    (at : AtHead r starting log state made watches x xs first since)
    → IsCommit at.here at.earlier at.later x method args (Some reply)
    → step_fault r (r.view first) (record { method = method; args = args }) reply state ≡ Some why
    → first_fault r starting log ≡ Some (Violation (line_of starting x.position) why)
head_faults {r} {starting} {log} {state} {watches = watches} {method = method} {args = args}
    {reply = reply} why at is faulty =
    fault_now why at.here at refl is.position
    (λ more. commit_fault_at r starting (states_along r starting (log ++ more)) at.here.caller
    at.here.kind at.earlier (at.later ++ more) state watches
    (record { method = method; args = args }) (Some reply) is.commits is.opened
    (next_reply_stays at.here.caller at.later more reply is.replies)
    (at.judged.reached more)
    ∙ ap (λ ws. step_fault r (r.view ws) (record { method = method; args = args }) reply state)
    (words_stay at is more)
    ∙ faulty)

-- they are what some writes leave of the words at the start
words_of : {r : Rules} {starting : List StartWord} {log : List Entry} {state : State} {made : ℕ}
    {watches : List Seen} {x : Waiting} {xs : List Waiting} {first : List ℕ}
    {since : List (List (ℕ × ℕ))} {method : Method} {args : Args} {o : Option ℕ}
    (at : AtHead r starting log state made watches x xs first since)
    → IsCommit at.here at.earlier at.later x method args o
    → first ≡ words_with r.header starting (effects (at.here ∷ at.earlier) at.later)
unfolding words_at
words_of at is = (words_here at is).0

-- a commit that is right
pub head_right : {r : Rules} {starting : List StartWord} {log : List Entry} {state : State}
    {made : ℕ} {watches : List Seen} (closed new : List Seen) {x : Waiting} {xs : List Waiting}
    {first : List ℕ} {since : List (List (ℕ × ℕ))} {method : Method} {args : Args} {reply : ℕ}
    (next : State) (more : ℕ)
    (at : AtHead r starting log state made watches x xs first since)
    (is : IsCommit at.here at.earlier at.later x method args (Some reply)) → AreFormed r
    → r.next method args reply state ≡ Some next
    → first_difference (r.view first) (r.shown next) ≡ None → more ≤ made + 1
    → OthersStay x.caller watches closed → slice_get closed x.caller ≡ Some unwatched → length new
    ≡ length closed
    → AllSee (r.answer next) closed new → AreCurrent (r.answer next) new
    → Judged r starting log next more new xs (with_writes first (split_here at is).part)
    (split_here at is).rest
head_right {r} {starting} {log} {state} {made} {watches} closed new {x} {xs} {first} {since}
    {method} {args} {reply} next more at is rules after same count others mine long see current =
    let split = split_here at is in
    judged_next r starting log state next made more watches new x xs first
    (with_writes first split.part) since split.rest at
    (λ commits. (reply, is.replies)) split.has count current
    (seen_commit (r.answer next) at.here.caller at.here.kind at.earlier watches closed new
    (commits_is at.here.kind is.commits) (subst (λ c. OthersStay c watches closed) is.caller others)
    (ap (slice_get closed) (sym is.caller) ∙ mine) long see at.judged.seen_few)
    (commit_shows first (effects (at.here ∷ at.earlier) at.later) method args reply rules
    (words_of at is) after same at.judged.shows)
    (record { fault = λ es. (right es).0; reached = λ es. (right es).1 })
  where
    right : (es : List Entry)
        → (fault_at r starting (states_along r starting (log ++ es))
        (place_of at.here at.earlier (at.later ++ es)) ≡ None)
        × Reached r (states_along r starting (log ++ es)) (at.here ∷ at.earlier)
        (at.later ++ es) next new
    right es = commit_right r starting (states_along r starting (log ++ es)) at.here.caller
        at.here.kind at.earlier (at.later ++ es) state next watches closed new
        (record { method = method; args = args }) reply is.commits is.opened
        (next_reply_stays at.here.caller at.later es reply is.replies) after
        (ap (λ ws. first_difference (r.view ws) (r.shown next)) (words_stay at is es) ∙ same)
        (subst (λ c. OthersStay c watches closed) is.caller others) see (at.judged.reached es)

-- a commit whose execution hasn't returned
pub head_waits : {r : Rules} {starting : List StartWord} {log : List Entry} {state : State}
    {made : ℕ} {watches : List Seen} {x : Waiting} {xs : List Waiting}
    {first : List ℕ} {since : List (List (ℕ × ℕ))} {method : Method} {args : Args}
    (at : AtHead r starting log state made watches x xs first since)
    → IsCommit at.here at.earlier at.later x method args None → first_fault r starting log ≡ None
head_waits {r} {starting} {log} {state} {watches = watches} {method = method} {args = args} at is =
    ap (first_fault r starting) (sym (append-nil log)) ∙ at.judged.clean []
    ∙ ap (λ es. first_answer (violation_at r starting states)
    (places_after at.earlier (at.here ∷ es))) (append-nil at.later)
    ∙ by_fault (fault_at r starting states (place_of at.here at.earlier at.later)) none
  where
    states : List State
    states = states_along r starting (log ++ [])

    waiting : (fault_at r starting states (place_of at.here at.earlier at.later) ≡ None)
        × (length states ≤ commit_count (at.here ∷ at.earlier))
    waiting = commit_waits r starting states at.here.caller at.here.kind at.earlier at.later state
        watches (record { method = method; args = args })
        is.commits is.opened is.replies
        (subst (λ es. Reached r states at.earlier (at.here ∷ es) state watches)
        (append-nil at.later) (at.judged.reached []))

    none : fault_at r starting states (place_of at.here at.earlier at.later) ≡ None
    none = waiting.0

    by_fault : (o : Option Why) → o ≡ None
        → option_or (option_map (Violation (line_of starting (length at.earlier))) o)
        (first_answer (violation_at r starting states)
        (places_after (at.here ∷ at.earlier) at.later)) ≡ None
    by_fault None e = no_fault_beyond r starting states (at.here ∷ at.earlier) at.later waiting.1
    by_fault (Some why) e = cc

-- there are fewer steps than entries
pub head_few : {r : Rules} {starting : List StartWord} {log : List Entry} {state : State} {made : ℕ}
    {watches : List Seen} {x : Waiting} {xs : List Waiting}
    {first : List ℕ} {since : List (List (ℕ × ℕ))}
    (at : AtHead r starting log state made watches x xs first since) → made < length log
head_few {log = log} at = omega (
  arith,
  at.judged.few,
  length-newest_first_onto (at.here ∷ at.earlier) at.later,
  length-newest_first_onto [] log,
  ap length at.whole,
)
