-- How what a caller is in the middle of, and the states along the commits, go on with one more
-- entry.
use Rattle.vyrd_base.proofs.Prelude
use Prelude.{◌≡◌, ℕ, ◌+◌, ◌≤◌, Bool, true, false, cond, ◌&&◌, List, [], ◌∷◌, ◌++◌, length, take}
use Prelude.{drop, Option, Some, None, slice_get, ap, ◌∙◌, sym, arith, ◌==◌, length-take, drop-drop}
use Prelude.{slice_get_within, Kind, Entry, open_call, call_or_return, is_call, entries_before_call}
use Prelude.{State, is_commit, returned, next_reply, commit_count, Committed, committed_at}
use Prelude.{commits_after, state_after, states_from, states_since_call, Rules}
use Rattle.std.proofs.Common.{length-drop}
use Rattle.std.proofs.lemmas.List.{drop-take, drop-append-le}
use Rattle.vyrd_base.proofs.BlockLaws.{entry, other_answer, no_answer}
use Rattle.vyrd_base.proofs.Lasting.{commit_count-cons, states_begin}
use Rattle.vyrd_base.proofs.ListLaws.{slice_get-drop, take_one_more}

-- another caller's entry
pub open_call-other : (c d : ℕ) (kind : Kind) (earlier : List Entry) → (d == c) ≡ false
    → open_call c (entry d kind ∷ earlier) ≡ open_call c earlier
open_call-other c d kind earlier other = cc (other_answer c d call_or_return kind earlier other)

pub next_reply-other : (c d : ℕ) (kind : Kind) (later : List Entry) → (d == c) ≡ false
    → next_reply c (entry d kind ∷ later) ≡ next_reply c later
next_reply-other c d kind later other = other_answer c d returned kind later other

pub before_call-other : (c d : ℕ) (kind : Kind) (earlier : List Entry) → (d == c) ≡ false
    → entries_before_call c (entry d kind ∷ earlier) ≡ entries_before_call c earlier
before_call-other c d kind earlier other = cc

-- an entry that neither begins nor ends an execution
pub next_reply-quiet : (c d : ℕ) (kind : Kind) (later : List Entry) → returned kind ≡ None
    → next_reply c (entry d kind ∷ later) ≡ next_reply c later
next_reply-quiet c d kind later quiet = no_answer c d returned kind later quiet

pub before_call-quiet : (c d : ℕ) (kind : Kind) (earlier : List Entry) → is_call kind ≡ false
    → entries_before_call c (entry d kind ∷ earlier) ≡ entries_before_call c earlier
before_call-quiet c d kind earlier quiet = grind (arith, quiet)

-- the entries before a call have no more commits
pub commits_before_call : (c : ℕ) (earlier : List Entry)
    → commit_count (entries_before_call c earlier) ≤ commit_count earlier
commits_before_call c [] = omega arith
commits_before_call c (e ∷ earlier) = by_call (commits_before_call c earlier)
    ((e.caller == c) && is_call e.kind)
  where
    by_call : commit_count (entries_before_call c earlier) ≤ commit_count earlier
        → (b : Bool) → commit_count (cond b earlier (entries_before_call c earlier))
        ≤ commit_count (e ∷ earlier)
    by_call fewer true = omega (arith, commit_count-cons e earlier)
    by_call fewer false = omega (arith, commit_count-cons e earlier)

-- how many commits there are after an entry
pub count-quiet : (e : Entry) (earlier : List Entry) → is_commit e.kind ≡ false
    → commit_count (e ∷ earlier) ≡ commit_count earlier
count-quiet e earlier quiet = cc (commit_count-cons e earlier)

pub count-commit : (e : Entry) (earlier : List Entry) → is_commit e.kind ≡ true
    → commit_count (e ∷ earlier) ≡ commit_count earlier + 1
count-commit e earlier commits = grind (arith, commit_count-cons e earlier)

-- the window of states since a call stays where no commit comes
pub window-quiet : (states : List State) (c : ℕ) (e : Entry) (earlier : List Entry)
    → is_commit e.kind ≡ false
    → entries_before_call c (e ∷ earlier) ≡ entries_before_call c earlier
    → states_since_call states c (e ∷ earlier) ≡ states_since_call states c earlier
window-quiet states c e earlier quiet before = grind (arith, quiet, count-quiet)

-- a commit adds the state after it to every window
pub window-commit : (states : List State) (c : ℕ) (e : Entry) (earlier : List Entry) (next : State)
    → is_commit e.kind ≡ true
    → entries_before_call c (e ∷ earlier) ≡ entries_before_call c earlier
    → slice_get states (commit_count earlier + 1) ≡ Some next
    → states_since_call states c (e ∷ earlier) ≡ states_since_call states c earlier ++ next ∷ []
window-commit states c e earlier next commits before here =
    let first = commit_count (entries_before_call c earlier) in
    let within = slice_get_within states (commit_count earlier + 1) next here in
    let long : first ≤ length (take (commit_count earlier + 1) states) =
    omega (arith, length-take (commit_count earlier + 1) states, commits_before_call c earlier) in
    ap (λ es. drop (commit_count es) (take (commit_count (e ∷ earlier) + 1) states)) before
    ∙ ap (λ n. drop first (take (n + 1) states)) (count-commit e earlier commits)
    ∙ ap (drop first) (take_one_more states (commit_count earlier + 1) next here)
    ∙ drop-append-le first (take (commit_count earlier + 1) states) (next ∷ []) long

-- just after a call the window is the state there
pub window-call : (states : List State) (c : ℕ) (e : Entry) (earlier : List Entry) (state : State)
    (rest : List State)
    → is_commit e.kind ≡ false
    → entries_before_call c (e ∷ earlier) ≡ earlier → drop (commit_count earlier) states ≡ state
    ∷ rest
    → states_since_call states c (e ∷ earlier) ≡ state ∷ []
window-call states c e earlier state rest quiet before going =
    cc (count-quiet e earlier quiet, drop-take (commit_count earlier) 1 states)

-- the state at a place is known
pub state_here : (r : Rules) (states : List State) (earlier : List Entry) (state : State)
    (xs : List Committed)
    → drop (commit_count earlier) states ≡ states_from r state xs
    → slice_get states (commit_count earlier) ≡ Some state
state_here r states earlier state xs going = grind (arith, slice_get-drop, states_begin)

-- the states go on as they did after an entry that doesn't commit
pub going-quiet : (r : Rules) (states : List State) (e : Entry) (earlier later : List Entry)
    (state : State) → is_commit e.kind ≡ false
    → drop (commit_count earlier) states ≡ states_from r state (commits_after earlier (e ∷ later))
    → drop (commit_count (e ∷ earlier)) states ≡ states_from r state
    (commits_after (e ∷ earlier) later)
going-quiet r states e earlier later state quiet going = cc (count-quiet e earlier quiet)

-- after a commit they go on from the next state, or no later one is known
going_at : (r : Rules) (states : List State) (e : Entry) (earlier later : List Entry)
    (state : State) (o : Option State) → is_commit e.kind ≡ true
    → state_after r state (committed_at (record { earlier = earlier; here = e; later = later })) ≡ o
    → drop (commit_count earlier) states ≡ states_from r state (commits_after earlier (e ∷ later))
    → drop (commit_count earlier) states
    ≡ state ∷ (elim o as (λ _. List State) [
      | None ↦ []
      | Some next ↦ states_from r next
          (commits_after (e ∷ earlier) later)
    ])
going_at r states e earlier later state o commits after going = cc

pub going-commit : (r : Rules) (states : List State) (e : Entry) (earlier later : List Entry)
    (state next : State) → is_commit e.kind ≡ true
    → state_after r state (committed_at (record { earlier = earlier; here = e; later = later }))
    ≡ Some next
    → drop (commit_count earlier) states ≡ states_from r state (commits_after earlier (e ∷ later))
    → drop (commit_count (e ∷ earlier)) states ≡ states_from r next
    (commits_after (e ∷ earlier) later)
going-commit r states e earlier later state next commits after going =
    ap (λ n. drop n states) (count-commit e earlier commits)
    ∙ sym (drop-drop 1 (commit_count earlier) states)
    ∙ ap (drop 1) (going_at r states e earlier later state (Some next) commits after going)

pub ending-commit : (r : Rules) (states : List State) (e : Entry) (earlier later : List Entry)
    (state : State) → is_commit e.kind ≡ true
    → state_after r state (committed_at (record { earlier = earlier; here = e; later = later }))
    ≡ None
    → drop (commit_count earlier) states ≡ states_from r state (commits_after earlier (e ∷ later))
    → length states ≤ commit_count (e ∷ earlier)
ending-commit r states e earlier later state commits after going =
    omega (
      arith,
      ap length (going_at r states e earlier later state None commits after going),
      length-drop (commit_count earlier) states,
      count-commit e earlier commits,
    )
