-- What waits to be judged stands behind the commit of an execution that hasn't returned.
use Rattle.vyrd_judge.proofs.Prelude
use Prelude.{◌≡◌, ℕ, suc, ◌≤◌, true, false, List, [], ◌∷◌, ◌++◌, length, Option, Some, None, refl}
use Prelude.{arith, is_none, if◌then◌else◌, cons_option, append-nil, Method, Args, Entry, StartWord}
use Prelude.{place_of, newest_first_onto, newest_first, Commits, Waiting, JudgeView, HasFollowed}
use Prelude.{is_left_open, from_open_commit, AwaitsReturn, waiting_at, waiting_after}
use Rattle.vyrd_judge.proofs.WaitingLaws.{begins, waits}

-- no more entries than there are
most_open : (later : List Entry) → from_open_commit later ≤ length later
most_open [] = omega arith
most_open (e ∷ later) = elim (is_left_open e later) as (λ b.
    (if b then suc (length later) else from_open_commit later) ≤ suc (length later)) [
      | true ↦ omega arith
      | false ↦ let rest = most_open later in omega (arith, rest)
    ]

-- an entry before them makes them no fewer
one_before : (e : Entry) (later : List Entry)
    → from_open_commit later ≤ from_open_commit (e ∷ later)
one_before e later = grind (arith, most_open)

-- nor do all entries before a place
all_before : (earlier later : List Entry)
    → from_open_commit later ≤ from_open_commit (newest_first_onto later earlier)
all_before [] later = omega arith
all_before (e ∷ earlier) later = grind (arith, one_before e later, all_before earlier (e ∷ later))

-- turned twice
turned : {A : Type 0} (base earlier xs : List A)
    → newest_first_onto base (newest_first_onto earlier xs) ≡ newest_first_onto (xs ++ base) earlier
turned base earlier [] = refl
turned base earlier (x ∷ xs) = turned base (x ∷ earlier) xs

-- a log is what stands before a place and after it
pub log_parts : (earlier later log : List Entry)
    → newest_first_onto earlier later ≡ newest_first log
    → log ≡ newest_first_onto later earlier
log_parts earlier later log whole =
    cc (append-nil log, turned [] [] log, turned [] earlier later, append-nil later)

-- what waits are no more entries than there are
few_wait : (earlier later : List Entry) → length (waiting_after earlier later) ≤ length later
few_wait earlier [] = omega arith
few_wait earlier (e ∷ later) = one_more (waiting_at (place_of e earlier later))
    (length later) (waiting_after (e ∷ earlier) later) (few_wait (e ∷ earlier) later)
  where
    one_more : (o : Option Waiting) (n : ℕ) (ws : List Waiting) → length ws ≤ n
        → length (cons_option o ws) ≤ suc n
    one_more o n ws few = search (few, arith)

-- a commit that waits for its return is left open
pub left_open : (e : Entry) (earlier later : List Entry) (x : Waiting) (method : Method)
    (args : Args)
    → waiting_at (place_of e earlier later) ≡ Some x → x.event ≡ Commits method args None
    → is_left_open e later ≡ true
left_open e earlier later x method args is event = search (waits, is_none, begins, arith)

-- what waits from a place on stands behind a commit that is left open
waits_behind : (earlier later : List Entry) → AwaitsReturn (waiting_after earlier later)
    → length (waiting_after earlier later) ≤ from_open_commit later
waits_behind earlier [] awaits = omega arith
waits_behind earlier (e ∷ later) awaits =
    one_more (waiting_at (place_of e earlier later)) refl (waits_behind (e ∷ earlier) later) awaits
  where
    one_more : (o : Option Waiting) → waiting_at (place_of e earlier later) ≡ o
        → (AwaitsReturn (waiting_after (e ∷ earlier) later)
        → length (waiting_after (e ∷ earlier) later) ≤ from_open_commit later)
        → AwaitsReturn (cons_option o (waiting_after (e ∷ earlier) later))
        → length (cons_option o (waiting_after (e ∷ earlier) later))
        ≤ from_open_commit (e ∷ later)
    one_more o is behind rest = search (behind, one_before, left_open, few_wait, arith)

-- what a judge keeps waiting
pub waits_behind_open : (j : JudgeView) (starting : List StartWord) (log : List Entry)
    → HasFollowed j starting log → j.so_far ≡ None
    → length j.kept.waiting ≤ from_open_commit log
waits_behind_open j starting log followed undecided = search
    (waits_behind, log_parts, all_before, arith)
