-- How many answers open observers have, from entry to entry.
use Rattle.vyrd_judge.proofs.Prelude
use Prelude.{◌≡◌, ℕ, zero, suc, ◌+◌, ◌-◌, ◌<◌, ◌≤◌, Bool, true, false, List, [], ◌∷◌, ◌++◌, Some}
use Prelude.{None, slice_get, length, refl, ap, subst, ◌∙◌, sym, arith, ◌==◌, is_none, is_some}
use Prelude.{if◌then◌else◌, replicate, same_Some, none-some, slice_get_within, Header, Method, Args}
use Prelude.{Kind, Call, Return, Entry, open_call, has_committed, is_commit, commit_count, place_of}
use Prelude.{broken_rule, must_commit, entry, by_same, next_reply_stays, IsReturned, all_kept, Seen}
use Prelude.{AllSee, unwatched, answers_of, AllReturned, AreSeenFew, is_left_open, waiting_at}
use Rattle.vyrd_base.specs.Callers.{entries_before_call}
use Rattle.vyrd_base.proofs.StateLaws.{count-quiet, count-commit, commits_before_call}
use Rattle.vyrd_observers.specs.Watching.{one_more}
use Rattle.vyrd_judge.specs.Answers.{is_observing}
use Rattle.vyrd_judge.proofs.Reaching.{OthersStay}

-- so many answers, by whether there is an observer and by the commits
abbrev pub answers_by : Bool → ℕ → ℕ → ℕ
answers_by observing commits before = if observing then suc (commits - before) else 0

-- what a caller is in the middle of stays: so do its answers, and a commit adds one
stays : (c : ℕ) (e : Entry) (earlier : List Entry)
    → open_call c (e ∷ earlier) ≡ open_call c earlier
    → has_committed c (e ∷ earlier) ≡ has_committed c earlier
    → entries_before_call c (e ∷ earlier) ≡ entries_before_call c earlier
    → answers_of c (e ∷ earlier) ≡ answers_by (is_observing c earlier)
    (commit_count (e ∷ earlier)) (commit_count (entries_before_call c earlier))
stays c e earlier opened committed before = grind (arith, opened)

-- another caller's entry
pub other_answers : (c : ℕ) (e : Entry) (earlier : List Entry) → (e.caller == c) ≡ false
    → answers_of c (e ∷ earlier) ≡ answers_by (is_observing c earlier)
    (commit_count (e ∷ earlier)) (commit_count (entries_before_call c earlier))
other_answers c e earlier other = cc

-- no fewer with more commits, and one more with one more
more_commits : (b : Bool) (n m before : ℕ) → n ≤ m → answers_by b n before ≤ answers_by b m before
more_commits b n m before more = search arith

next_commit : (b : Bool) (n m before : ℕ) → before ≤ n → m ≡ n + 1
    → answers_by b m before ≡ one_more (answers_by b n before)
next_commit b n m before low is = search arith

fewer : (e : Entry) (earlier : List Entry) → commit_count earlier ≤ commit_count (e ∷ earlier)
fewer e earlier = by_commit (is_commit e.kind) refl
  where
    by_commit : (b : Bool) → is_commit e.kind ≡ b
        → commit_count earlier ≤ commit_count (e ∷ earlier)
    by_commit true is = let one = count-commit e earlier is in omega (arith, one)
    by_commit false is = let same = count-quiet e earlier is in omega (arith, same)

-- no answers of a caller that has no open execution, or one that has committed
pub unopened_answers : (c : ℕ) (earlier : List Entry) → open_call c earlier ≡ None
    → answers_of c earlier ≡ 0
unopened_answers c earlier none = grind arith

pub committed_answers : (c : ℕ) (earlier : List Entry) → has_committed c earlier ≡ true
    → answers_of c earlier ≡ 0
committed_answers c earlier is = grind arith

-- an execution that has just begun
pub begun_answers : (c : ℕ) (method : Method) (args : Args) (earlier : List Entry)
    → must_commit method ≡ false → answers_of c (entry c (Call method args) ∷ earlier) ≡ 1
begun_answers c method args earlier free = grind arith

-- a call stands outside any execution of its caller, and a return that isn't judged behind a commit
pub call_is_free : (h : Header) (c : ℕ) (method : Method) (args : Args) (earlier : List Entry)
    → broken_rule h earlier (entry c (Call method args)) ≡ None → open_call c earlier ≡ None
call_is_free h c method args earlier keeps = search (all_kept, is_some, arith)

returned_committed : (c reply : ℕ) (earlier later : List Entry)
    → waiting_at (place_of (entry c (Return reply)) earlier later) ≡ None
    → has_committed c earlier ≡ true
returned_committed c reply earlier later none = grind arith

-- an entry that isn't judged takes no answers away
pub quiet_answers : (h : Header) (e : Entry) (earlier later : List Entry) (c : ℕ)
    → broken_rule h earlier e ≡ None → waiting_at (place_of e earlier later) ≡ None
    → answers_of c earlier ≤ answers_of c (e ∷ earlier)
quiet_answers h e earlier later c keeps quiet = by_same e.caller c
    (λ same. subst (λ d. broken_rule h earlier (entry d e.kind) ≡ None
    → waiting_at (place_of (entry d e.kind) earlier later) ≡ None → answers_of c earlier
    ≤ answers_of c (entry d e.kind ∷ earlier)) (sym same) (own e.kind) keeps quiet)
    (λ other. at_most (other_answers c e _ other)
    (more_commits _ _ _ (commit_count (entries_before_call c earlier)) (fewer e earlier)))
  where
    at_most : {n m k : ℕ} → m ≡ k → n ≤ k → n ≤ m
    at_most {n} {m} {k} is low = omega (arith, is, low)

    own : (kind : Kind) → broken_rule h earlier (entry c kind) ≡ None
        → waiting_at (place_of (entry c kind) earlier later) ≡ None
        → answers_of c earlier ≤ answers_of c (entry c kind ∷ earlier)
    own kind keeps' none = search
        (unopened_answers, call_is_free, committed_answers, returned_committed, arith)

-- so nobody has seen too many
pub seen_on : (h : Header) (e : Entry) (earlier later : List Entry) (watches : List Seen)
    → broken_rule h earlier e ≡ None → waiting_at (place_of e earlier later) ≡ None
    → AreSeenFew earlier watches → AreSeenFew (e ∷ earlier) watches
seen_on h e earlier later watches keeps quiet few = search (quiet_answers, arith)

-- a call or a return, which the caller's own watch has the answers of
pub seen_changed : (c : ℕ) (kind : Kind) (earlier : List Entry) (watches new : List Seen)
    → OthersStay c watches new
    → ((seen : Seen) → slice_get new c ≡ Some seen
    → length seen.answers ≤ answers_of c (entry c kind ∷ earlier))
    → AreSeenFew earlier watches → AreSeenFew (entry c kind ∷ earlier) new
seen_changed c kind earlier watches new others own few = λ d seen here. by_same c d
    (λ same. subst (λ k. length seen.answers ≤ answers_of k (entry c kind ∷ earlier)) same
    (own seen (ap (slice_get new) same ∙ here)))
    (λ other.
    let low = few d seen (sym (others d other) ∙ here) in
    let more = more_commits (is_observing d earlier) (commit_count earlier)
    (commit_count (entry c kind ∷ earlier)) (commit_count (entries_before_call d earlier))
    (fewer (entry c kind) earlier) in
    let is = other_answers d (entry c kind) earlier other in omega (arith, low, more, is))

-- a caller whose watch is closed has seen nothing
pub seen_closed : (c : ℕ) (new : List Seen) (n : ℕ) → slice_get new c ≡ Some unwatched
    → (seen : Seen) → slice_get new c ≡ Some seen → length seen.answers ≤ n
seen_closed c new n closed seen here = grind (arith, same_Some _ _ (sym closed ∙ here))

-- a commit, after which all see the state
pub seen_commit : (told : Method → Args → ℕ) (c : ℕ) (kind : Kind) (earlier : List Entry)
    (watches closed new : List Seen)
    → is_commit kind ≡ true → OthersStay c watches closed → slice_get closed c ≡ Some unwatched
    → length new ≡ length closed → AllSee told closed new
    → AreSeenFew earlier watches → AreSeenFew (entry c kind ∷ earlier) new
seen_commit told c kind earlier watches closed new commits others mine long see few =
    λ d next here.
    let was = there closed d (omega (arith, long, slice_get_within new d next here)) in
    let more = see d was.0 was.1 in
    let same : more.0 ≡ next = same_Some _ _ (sym more.1 ∙ here) in
    let low : length next.answers ≤ one_more (length was.0.answers) =
    subst (λ (s : Seen). length s.answers ≤ one_more (length was.0.answers)) same more.2.few in
    by_same c d
    (λ is.
    let gone : was.0 ≡ unwatched = same_Some _ _ (sym was.1 ∙ ap (slice_get closed) (sym is) ∙ mine)
    in no_more (length next.answers) _ (subst (λ (s : Seen). length next.answers
    ≤ one_more (length s.answers)) gone low))
    (λ other.
    let before = few d was.0 (sym (others d other) ∙ was.1) in
    let up = grows (length was.0.answers) (answers_of d earlier) before in
    let is : answers_of d (entry c kind ∷ earlier) ≡ one_more (answers_of d earlier) =
    other_answers d (entry c kind) earlier other
    ∙ next_commit (is_observing d earlier) (commit_count earlier)
    (commit_count (entry c kind ∷ earlier)) (commit_count (entries_before_call d earlier))
    (commits_before_call d earlier) (count-commit (entry c kind) earlier commits) in
    omega (arith, low, up, is))
  where
    no_more : (n m : ℕ) → n ≤ 0 → n ≤ m
    no_more n m low = omega (arith, low)

    grows : (n m : ℕ) → n ≤ m → one_more n ≤ one_more m
    grows n m low = search arith

    there : (xs : List Seen) (i : ℕ) → i < length xs
        → (seen : Seen) × (slice_get xs i ≡ Some seen)
    there [] i low = absurd (omega (arith, low))
    there (x ∷ xs) zero low = (x, refl)
    there (x ∷ xs) (suc i) low = there xs i (omega (arith, low))

-- nobody has seen anything before the first entry
pub seen_nothing : (n : ℕ) → AreSeenFew [] (replicate n unwatched)
seen_nothing zero c seen here = absurd (none-some _ here)
seen_nothing (suc n) zero seen here = grind (arith, same_Some _ _ here)
seen_nothing (suc n) (suc c) seen here = seen_nothing n c seen here

-- a commit that has returned isn't left open
pub closed_here : (e : Entry) (later : List Entry) → IsReturned e.caller e.kind later
    → is_left_open e later ≡ false
closed_here e later is = grind (arith, is_none)

-- nor is it with further entries
closed_more : (e : Entry) (later more : List Entry) → is_left_open e later ≡ false
    → is_left_open e (later ++ more) ≡ false
closed_more e later more is = grind (arith, more, is_none, next_reply_stays)

pub returned_more : (earlier later more : List Entry) → AllReturned earlier later
    → AllReturned earlier (later ++ more)
returned_more [] later more all = tt
returned_more (e ∷ earlier) later more all =
    (closed_more e later more all.0, returned_more earlier (e ∷ later) more all.1)
