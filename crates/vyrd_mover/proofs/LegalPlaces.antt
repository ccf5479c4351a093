-- What a legal history says of the event at a place.
use Rattle.vyrd_mover.proofs.Prelude.{◌≡◌, ℕ, zero, suc, ◌+◌, ◌<◌, ◌≤◌, true, List, [], ◌∷◌, length}
use Rattle.vyrd_mover.proofs.Prelude.{take, get_or, subst, arith, list_all, Did, Stamped}
use Rattle.vyrd_mover.proofs.Prelude.{places_after, newest_first, newest_first_onto, Cells, may_do}
use Rattle.vyrd_mover.proofs.Prelude.{is_legal_at, is_legal, first_true, second_true, below_of}
use Rattle.vyrd_mover.proofs.Prelude.{at_most_of, words_for, IsInRange, IsBehind, HasPlaceIn}
use Rattle.vyrd_mover.proofs.LockLaws.{place_of_lock}

-- the event may come here
pub record MayCome (cells : Cells) (earlier : List Stamped) (number : ℕ) (e : Stamped) : Type 0
  where
    pub numbered : e.number ≡ number
    pub caller : e.caller < cells.callers
    pub may : may_do cells earlier e.caller e.did ≡ true

legal_place : (cells : Cells) (earlier xs : List Stamped) (i : ℕ) (d : Stamped)
    → list_all (is_legal_at cells) (places_after earlier xs) ≡ true
    → i < length xs → MayCome cells (newest_first_onto earlier (take i xs)) (length earlier + i)
    (get_or xs i d)
legal_place cells earlier [] i d legal low = absurd (omega arith)
legal_place cells earlier (x ∷ xs) zero d legal low =
    search (below_of, second_true, first_true, arith)
legal_place cells earlier (x ∷ xs) (suc i) d legal low =
    let n : length (x ∷ earlier) + i ≡ length earlier + suc i = omega arith in
    rw (← n) (legal_place cells (x ∷ earlier) xs i d
    (second_true (is_legal_at cells (record { earlier = earlier; here = x; later = xs })) _ legal)
    (omega arith))

pub legal_event : (cells : Cells) (history : List Stamped) (i : ℕ) (d : Stamped)
    → is_legal cells history ≡ true → i < length history
    → MayCome cells (newest_first (take i history)) i (get_or history i d)
unfolding is_legal
legal_event cells history i d legal low =
    let n : 0 + i ≡ i = omega arith in
    subst (λ n. MayCome cells (newest_first (take i history)) n (get_or history i d)) n
    (legal_place cells [] history i d legal low)

-- an event that may come has its cell in range
pub in_range : (cells : Cells) (earlier : List Stamped) (caller : ℕ) (did : Did)
    → may_do cells earlier caller did ≡ true
    → IsInRange cells.plain (cells.plain + cells.locks) did
in_range cells earlier caller did may = grind (arith, below_of, first_true, second_true)

-- its lock stands behind the plain cells
pub behind : (cells : Cells) (earlier : List Stamped) (caller : ℕ) (did : Did)
    → may_do cells earlier caller did ≡ true → IsBehind cells.plain did
behind cells earlier caller did may = grind (arith, at_most_of, first_true)

-- and has a place in a set for all locks
pub has_place_in : (plain locks : ℕ) (did : Did) → IsInRange plain (plain + locks) did
    → IsBehind plain did → HasPlaceIn plain (words_for locks) did
has_place_in plain locks did range least = grind (arith, plain, least, place_of_lock)

-- a range with more locks
pub wider : (plain all more : ℕ) (did : Did) → all ≤ more → IsInRange plain all did
    → IsInRange plain more did
wider plain all more did least range = grind (arith, plain, more, least)
