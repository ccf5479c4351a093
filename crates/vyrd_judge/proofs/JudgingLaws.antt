-- The entry that waits first is judged by its event.
use Rattle.vyrd_judge.proofs.Prelude
use Prelude.{◌≡◌, ℕ, ◌<◌, ◌^◌, true, false, List, [], ◌∷◌, length, set, get_or, Option, Some, None}
use Prelude.{slice_get, ap, arith, ◌||◌, Result, Ok, Err, IfOk, ∥∥₁_elim, Bool-set, Method, Args}
use Prelude.{Entry, StartWord, Observer, Violation, is_observer, must_commit, State, line_of}
use Prelude.{first_fault, by_same, below_of, is_below, same_number, apart_of, Begins, Commits}
use Prelude.{Returns, Waiting, has_method, Seen, unwatched, has_answer, AreCurrent, Judged}
use Prelude.{HeadGives, MayJudge, slice_get-set_same, slice_get-set_other, AreFormed, Rules}
use Rattle.std.proofs.lemmas.Option.{slice_get-get_or, slice_get_within}
use Rattle.vyrd_judge.specs.declared.outcome.Outcome.{Outcome}
use Rattle.vyrd_judge.specs.declared.outcome.Outcome.TheVariants.{Goes, Faults}
use Rattle.vyrd_judge.specs.Judged.{CommitLeads}
use Rattle.vyrd_judge.proofs.Reaching.{OthersStay}
use Rattle.vyrd_judge.proofs.WaitingLaws.{Waits, begins, waits, IsBegin, IsCommit, IsReturn}
use Rattle.vyrd_judge.proofs.JudgedLaws.{AtHead, judged_head}
use Rattle.vyrd_judge.proofs.HeadLaws.{head_begins, begin_fits, head_caller, head_answered}
use Rattle.vyrd_judge.proofs.HeadLaws.{head_unanswered, commit_fits, split_here, head_faults}
use Rattle.vyrd_judge.proofs.HeadLaws.{head_right, head_waits, head_few}

-- the entry that waits first, by its event
pub begins_at : {r : Rules} {starting : List StartWord} {log : List Entry} {state : State}
    {made : ℕ} {watches : List Seen} {x : Waiting} {xs : List Waiting}
    {first : List ℕ} {since : List (List (ℕ × ℕ))} {method : Method} {args : Args}
    → x.event ≡ Begins method args → Judged r starting log state made watches (x ∷ xs) first since
    → (at : AtHead r starting log state made watches x xs first since)
    × IsBegin at.here at.earlier x method args
begins_at {r} {starting} {log} {state} {made} {watches} {x} {xs} {first} {since} {method} {args}
    event j =
    let at = judged_head r starting log state made watches x xs first since j in
    (at, by_event at (waits at.here at.earlier at.later x at.is))
  where
    by_event : (at : AtHead r starting log state made watches x xs first since)
        → Waits at.here at.earlier at.later x → IsBegin at.here at.earlier x method args
    by_event at e1 = search (begins, arith)

pub commits_at : {r : Rules} {starting : List StartWord} {log : List Entry} {state : State}
    {made : ℕ} {watches : List Seen} {x : Waiting} {xs : List Waiting}
    {first : List ℕ} {since : List (List (ℕ × ℕ))} {method : Method} {args : Args} {o : Option ℕ}
    → x.event ≡ Commits method args o
    → Judged r starting log state made watches (x ∷ xs) first since
    → (at : AtHead r starting log state made watches x xs first since)
    × IsCommit at.here at.earlier at.later x method args o
commits_at {r} {starting} {log} {state} {made} {watches} {x} {xs} {first} {since} {method} {args}
    {o} event j =
    let at = judged_head r starting log state made watches x xs first since j in
    (at, by_event at (waits at.here at.earlier at.later x at.is))
  where
    by_event : (at : AtHead r starting log state made watches x xs first since)
        → Waits at.here at.earlier at.later x
        → IsCommit at.here at.earlier at.later x method args o
    by_event at e1 = search (begins, arith)

pub returns_at : {r : Rules} {starting : List StartWord} {log : List Entry} {state : State}
    {made : ℕ} {watches : List Seen} {x : Waiting} {xs : List Waiting}
    {first : List ℕ} {since : List (List (ℕ × ℕ))} {reply : ℕ} → x.event ≡ Returns reply
    → Judged r starting log state made watches (x ∷ xs) first since
    → (at : AtHead r starting log state made watches x xs first since)
    × IsReturn at.here at.earlier x reply
returns_at {r} {starting} {log} {state} {made} {watches} {x} {xs} {first} {since} {reply} event j =
    let at = judged_head r starting log state made watches x xs first since j in
    (at, by_event at (waits at.here at.earlier at.later x at.is))
  where
    by_event : (at : AtHead r starting log state made watches x xs first since)
        → Waits at.here at.earlier at.later x → IsReturn at.here at.earlier x reply
    by_event at e1 = search (begins, arith)

-- what may be judged: its caller, what was called, and how many steps were made
pub begins_caller : {r : Rules} {state : State} {made : ℕ} {watches : List Seen} {x : Waiting}
    {first : List ℕ} {since : List (List (ℕ × ℕ))} {method : Method} {args : Args}
    → x.event ≡ Begins method args → MayJudge r state made watches x first since
    → x.caller < r.header.callers
begins_caller event may = below_of _ _ (∥∥₁_elim may (Bool-set _ _) (λ s.
    let found = begins_at event s.3 in is_below _ _ (head_caller found.0 found.1.caller)))

pub begins_may : {r : Rules} {state : State} {made : ℕ} {watches : List Seen} {x : Waiting}
    {first : List ℕ} {since : List (List (ℕ × ℕ))} {method : Method} {args : Args}
    → x.event ≡ Begins method args → MayJudge r state made watches x first since
    → has_method r.header method args ≡ true
begins_may event may = ∥∥₁_elim may (Bool-set _ _)
    (λ s. let found = begins_at event s.3 in begin_fits found.0 found.1)

pub begins_free : {r : Rules} {state : State} {made : ℕ} {watches : List Seen} {x : Waiting}
    {first : List ℕ} {since : List (List (ℕ × ℕ))} {method : Method} {args : Args}
    → x.event ≡ Begins method args → MayJudge r state made watches x first since
    → must_commit method ≡ false
begins_free event may = ∥∥₁_elim may (Bool-set _ _) (λ s. (begins_at event s.3).1.free)

pub commits_caller : {r : Rules} {state : State} {made : ℕ} {watches : List Seen} {x : Waiting}
    {first : List ℕ} {since : List (List (ℕ × ℕ))} {method : Method} {args : Args}
    {o : Option ℕ} → x.event ≡ Commits method args o → MayJudge r state made watches x first since
    → x.caller < r.header.callers
commits_caller event may = below_of _ _ (∥∥₁_elim may (Bool-set _ _) (λ s.
    let found = commits_at event s.3 in is_below _ _ (head_caller found.0 found.1.caller)))

pub commits_may : {r : Rules} {state : State} {made : ℕ} {watches : List Seen} {x : Waiting}
    {first : List ℕ} {since : List (List (ℕ × ℕ))} {method : Method} {args : Args}
    {o : Option ℕ} → x.event ≡ Commits method args o → MayJudge r state made watches x first since
    → has_method r.header method args ≡ true
commits_may event may = ∥∥₁_elim may (Bool-set _ _)
    (λ s. let found = commits_at event s.3 in (commit_fits found.0 found.1).may)

pub commits_mutates : {r : Rules} {state : State} {made : ℕ} {watches : List Seen} {x : Waiting}
    {first : List ℕ} {since : List (List (ℕ × ℕ))} {method : Method} {args : Args}
    {o : Option ℕ} → x.event ≡ Commits method args o → MayJudge r state made watches x first since
    → is_observer method ≡ false
commits_mutates event may = ∥∥₁_elim may (Bool-set _ _)
    (λ s. let found = commits_at event s.3 in (commit_fits found.0 found.1).mutates)

pub returns_caller : {r : Rules} {state : State} {made : ℕ} {watches : List Seen} {x : Waiting}
    {first : List ℕ} {since : List (List (ℕ × ℕ))} {reply : ℕ}
    → x.event ≡ Returns reply → MayJudge r state made watches x first since
    → x.caller < r.header.callers
returns_caller event may = below_of _ _ (∥∥₁_elim may (Bool-set _ _) (λ s.
    let found = returns_at event s.3 in is_below _ _ (head_caller found.0 found.1.caller)))

pub steps_few : {r : Rules} {state : State} {made : ℕ} {watches : List Seen} {x : Waiting}
    {first : List ℕ} {since : List (List (ℕ × ℕ))}
    → MayJudge r state made watches x first since → made < 2 ^ 62
steps_few {r} {state} {made} {watches} {x} {first} {since} may = below_of _ _
    (∥∥₁_elim may (Bool-set _ _) (λ s.
    let few : made < 2 ^ 62 =
    omega (arith, head_few (judged_head r s.0 s.1 state made watches x s.2 first since s.3), s.4) in
    is_below made (2 ^ 62) few))

current-prop : (r : Rules) (state : State) (watches : List Seen)
    → IsProp (AreCurrent (r.answer state) watches)
current-prop r state watches = hlevel Bool-set

pub judged_current : {r : Rules} {state : State} {made : ℕ} {watches : List Seen} {x : Waiting}
    {first : List ℕ} {since : List (List (ℕ × ℕ))}
    → MayJudge r state made watches x first since → AreCurrent (r.answer state) watches
judged_current {r = r} {state = state} {watches = watches} may = ∥∥₁_elim may
    (current-prop r state watches) (λ s. s.3.current)

-- one watch is changed
others_stay : (c : ℕ) (watches : List Seen) (seen : Seen)
    → OthersStay c watches (set watches c seen)
others_stay c watches seen d other = slice_get-set_other watches c d seen (apart_of c d other)

current_set : (r : Rules) (state : State) (c : ℕ) (watches : List Seen) (seen : Seen)
    → c < length watches → AreCurrent (r.answer state) watches
    → (seen.is_open ≡ true → has_answer seen.answers (r.answer state seen.method seen.args) ≡ true)
    → AreCurrent (r.answer state) (set watches c seen)
current_set r state c watches seen low all own = search
    (by_same, slice_get-set_same, slice_get-set_other, apart_of, arith)

pub current_closed : (r : Rules) (state : State) (c : ℕ) (watches : List Seen) → c < length watches
    → AreCurrent (r.answer state) watches
    → AreCurrent (r.answer state) (set watches c unwatched)
current_closed r state c watches low all = search (current_set, arith)

-- an execution begins that may return without a commit
pub judged_begins : {r : Rules} {starting : List StartWord} {log : List Entry} {state : State}
    {made : ℕ} {watches : List Seen} {x : Waiting} {xs : List Waiting}
    {first : List ℕ} {since : List (List (ℕ × ℕ))} {method : Method} {args : Args}
    → x.event ≡ Begins method args → length watches ≡ r.header.callers
    → Judged r starting log state made watches (x ∷ xs) first since
    → Judged r starting log state made
    (set watches x.caller
    (record {
      is_open = true;
      method = method;
      args = args;
      answers = r.answer state method args
          ∷ [];
    })) xs first since
judged_begins {r} {state = state} {watches = watches} {x} {method = method} {args = args} event long
    j =
    let found = begins_at event j in
    let low : x.caller < length watches = omega (arith, long, head_caller found.0 found.1.caller) in
    head_begins (set watches x.caller seen) found.0 found.1 (others_stay x.caller watches seen)
    (slice_get-set_same watches x.caller seen low)
    (current_set r state x.caller watches seen low j.current
    (λ is_open. ap (λ b. b || false) (same_number (r.answer state method args))))
  where
    seen : Seen
    seen = record {
      is_open = true;
      method = method;
      args = args;
      answers = r.answer state method args ∷ [];
    }

-- an execution without a commit returns
pub watch_there : {r : Rules} {starting : List StartWord} {log : List Entry} {state : State}
    {made : ℕ} {watches : List Seen} {x : Waiting} {xs : List Waiting}
    {first : List ℕ} {since : List (List (ℕ × ℕ))} {reply : ℕ} → x.event ≡ Returns reply
    → length watches ≡ r.header.callers
    → Judged r starting log state made watches (x ∷ xs) first since → (seen : Seen)
    × (slice_get watches x.caller ≡ Some seen)
watch_there {watches = watches} {x} event long j =
    let found = returns_at event j in
    let low : x.caller < length watches = omega (arith, long, head_caller found.0 found.1.caller) in
    (get_or watches x.caller unwatched, slice_get-get_or watches x.caller unwatched low)

pub judged_answered : {r : Rules} {starting : List StartWord} {log : List Entry} {state : State}
    {made : ℕ} {watches : List Seen} {x : Waiting} {xs : List Waiting}
    {first : List ℕ} {since : List (List (ℕ × ℕ))} {reply : ℕ} (seen : Seen)
    → x.event ≡ Returns reply → slice_get watches x.caller ≡ Some seen
    → has_answer seen.answers reply ≡ true → Judged r starting log state made watches
    (x ∷ xs) first since
    → Judged r starting log state made (set watches x.caller unwatched) xs first since
judged_answered {r} {state = state} {watches = watches} {x} seen event here answered j =
    let found = returns_at event j in
    head_answered (set watches x.caller unwatched) seen found.0 found.1 here answered
    (others_stay x.caller watches unwatched)
    (slice_get-set_same watches x.caller unwatched (slice_get_within watches x.caller seen here))
    (current_closed r state x.caller watches (slice_get_within watches x.caller seen here)
    j.current)

pub judged_unanswered : {r : Rules} {starting : List StartWord} {log : List Entry} {state : State}
    {made : ℕ} {watches : List Seen} {x : Waiting} {xs : List Waiting}
    {first : List ℕ} {since : List (List (ℕ × ℕ))} {reply : ℕ} (seen : Seen)
    → x.event ≡ Returns reply → slice_get watches x.caller ≡ Some seen
    → has_answer seen.answers reply ≡ false → Judged r starting log state made watches
    (x ∷ xs) first since
    → first_fault r starting log ≡ Some (Violation (line_of starting x.position) (Observer reply))
judged_unanswered seen event here unanswered j =
    let found = returns_at event j in head_unanswered seen found.0 found.1 here unanswered

-- a commit that hasn't returned
pub judged_waits : {r : Rules} {starting : List StartWord} {log : List Entry} {state : State}
    {made : ℕ} {watches : List Seen} {x : Waiting} {xs : List Waiting}
    {first : List ℕ} {since : List (List (ℕ × ℕ))} {method : Method} {args : Args}
    → x.event ≡ Commits method args None → Judged r starting log state made watches
    (x ∷ xs) first since
    → first_fault r starting log ≡ None
judged_waits event j = let found = commits_at event j in head_waits found.0 found.1

-- the words since such a commit wait too
pub commit_splits : {r : Rules} {starting : List StartWord} {log : List Entry} {state : State}
    {made : ℕ}
    {watches : List Seen} {x : Waiting} {xs : List Waiting} {first : List ℕ} {since : List (List
    (ℕ × ℕ))}
    {method : Method} {args : Args} {reply : ℕ} → x.event ≡ Commits method args (Some reply)
    → Judged r starting log state made watches (x ∷ xs) first since
    → (part : List (ℕ × ℕ)) × (rest : List (List (ℕ × ℕ))) × (since ≡ part ∷ rest)
commit_splits event j =
    let found = commits_at event j in
    let split = split_here found.0 found.1 in
    (split.part, split.rest, split.is)

-- a commit that has, by what it leads to
pub judged_commits : {E : Type 0} {r : Rules} {starting : List StartWord} {log : List Entry}
    {state : State} {made : ℕ} {watches : List Seen} {x : Waiting}
    {xs : List Waiting} {first : List ℕ} {since : List (List (ℕ × ℕ))} {method : Method}
    {args : Args} {reply : ℕ} (after : State) (more : ℕ)
    (new : List Seen) (next_first : List ℕ) (next_since : List (List (ℕ × ℕ)))
    (val : Result Outcome E) → x.event ≡ Commits method args (Some reply)
    → AreFormed r → length watches ≡ r.header.callers
    → Judged r starting log state made watches (x ∷ xs) first since
    → ((part : List (ℕ × ℕ)) (rest : List (List (ℕ × ℕ))) → since ≡ part ∷ rest
    → IfOk val (CommitLeads r first part rest x.caller (record { method = method; args = args })
    reply state made watches after more new next_first next_since))
    → IfOk val (HeadGives r starting log after more new x xs next_first next_since)
judged_commits {E} {r} {starting} {log} {state} {made} {watches} {x} {xs} {first} {since} {method}
    {args} {reply} after more new next_first next_since val event rules long j leads =
    let found = commits_at event j in
    let split = split_here found.0 found.1 in
    by_result found.0 found.1 val (leads split.part split.rest split.is)
  where
    Leads : (at : AtHead r starting log state made watches x xs first since)
        → IsCommit at.here at.earlier at.later x method args (Some reply) → Outcome → Type 0
    Leads at is o = CommitLeads r first (split_here at is).part (split_here at is).rest x.caller
        (record { method = method; args = args }) reply state made watches
        after more new next_first next_since o

    by_outcome : (at : AtHead r starting log state made watches x xs first since)
        (is : IsCommit at.here at.earlier at.later x method args (Some reply))
        → (o : Outcome) → Leads at is o → HeadGives r starting log after more new x xs next_first
        next_since o
    by_outcome at is Goes right =
        rw right.words
        (rw right.since
        (head_right (set watches x.caller unwatched) new after more at is rules right.next
        right.same right.count (others_stay x.caller watches unwatched)
        (slice_get-set_same watches x.caller unwatched
        (omega (arith, long, head_caller at is.caller)))
        right.len right.seen right.current))
    by_outcome at is (Faults why) faulty = head_faults why at is faulty

    by_result : (at : AtHead r starting log state made watches x xs first since)
        (is : IsCommit at.here at.earlier at.later x method args (Some reply))
        → (s : Result Outcome E) → IfOk s (Leads at is)
        → IfOk s (HeadGives r starting log after more new x xs next_first next_since)
    by_result at is (Ok o) l = by_outcome at is o l
    by_result at is (Err e) l = tt
