-- Race-free cells as facts about runs over a memory.
use Rattle.vyrd_mover.proofs.Prelude
use Prelude.{◌≡◌, ℕ, ◌+◌, ◌<◌, true, false, not, ◌||◌, ◌⊎◌, inl, inr, List, [], ◌∷◌, refl, ap}
use Prelude.{arith, ◌==◌, nat_le, list_all, list_any, or_left, or_right, not-true, Stamped}
use Prelude.{places_after, numbers_from, numbers_below, Cells, is_lock, value_in, both_true}
use Prelude.{first_true, second_true, same_of, is_same, at_most_of, below_of, is_access_of}
use Prelude.{is_write_to, is_used_by_alone, is_unwritten, is_guarded_at, is_guarded_by}
use Prelude.{is_race_free, numbered_from}
use Rattle.vyrd_base.proofs.CellLaws.{is_lock_of}
use Rattle.vyrd_mover.proofs.TruthLaws.{either_true, implied, implies, any_tells, tells_any}
use Rattle.vyrd_mover.proofs.Running.{step, value_step}

-- each read and write of the cell is the caller's
abbrev pub Only : ℕ → ℕ → List Stamped → Type 0
Only cell c [] = Unit {0}
Only cell c (e ∷ later) = (is_access_of cell e.did ≡ true → e.caller ≡ c) × Only cell c later

-- no event writes the cell
abbrev pub Unwritten : ℕ → List Stamped → Type 0
Unwritten cell [] = Unit {0}
Unwritten cell (e ∷ later) = (is_write_to cell e.did ≡ false) × Unwritten cell later

-- who reads or writes the cell holds the lock
abbrev pub Guards : ℕ → ℕ → (ℕ → ℕ) → List Stamped → Type 0
Guards cell lock m [] = Unit {0}
Guards cell lock m (e ∷ later) = (is_access_of cell e.did ≡ true → m lock ≡ e.caller + 1)
    × Guards cell lock (step m e) later

-- why the cell is race-free in the events that follow on a memory
pub data Free (cells : Cells) (m : ℕ → ℕ) (es : List Stamped) (cell : ℕ) : Type 0 where
  alone : (c : ℕ) → c < cells.callers → Only cell c es → Free cells m es cell
  unwritten : Unwritten cell es → Free cells m es cell
  guarded : (lock : ℕ) → is_lock cells lock ≡ true → Guards cell lock m es → Free cells m es cell

only_of : (cell c : ℕ) (es : List Stamped) → is_used_by_alone es cell c ≡ true → Only cell c es
only_of cell c [] h = tt
only_of cell c (e ∷ later) h = (
  λ access. same_of e.caller c
      (implied (is_access_of cell e.did) (e.caller == c) (first_true _ _ h) access),
  only_of cell c later (second_true (not (is_access_of cell e.did) || e.caller == c) _ h),
)

is_only : (cell c : ℕ) (es : List Stamped) → Only cell c es → is_used_by_alone es cell c ≡ true
is_only cell c [] h = refl
is_only cell c (e ∷ later) h = both_true (not _ || e.caller == c) _
    (implies (is_access_of cell e.did) _ (λ access. is_same e.caller c (h.0 access)))
    (is_only cell c later h.1)

unwritten_of : (cell : ℕ) (es : List Stamped) → is_unwritten es cell ≡ true → Unwritten cell es
unwritten_of cell [] h = tt
unwritten_of cell (e ∷ later) h =
    (not-true _ (first_true _ _ h), unwritten_of cell later (second_true _ _ h))

is_never_written : (cell : ℕ) (es : List Stamped) → Unwritten cell es → is_unwritten es cell ≡ true
is_never_written cell [] h = refl
is_never_written cell (e ∷ later) h = both_true (not (is_write_to cell e.did)) _ (ap not h.0)
    (is_never_written cell later h.1)

guards_of : (cell lock : ℕ) (earlier es : List Stamped) → list_all (is_guarded_at cell lock)
    (places_after earlier es) ≡ true
    → Guards cell lock (value_in earlier) es
guards_of cell lock earlier [] h = tt
guards_of cell lock earlier (e ∷ later) h = (
  λ access. same_of _ _ (implied (is_access_of cell e.did) _ (first_true _ _ h) access),
  rw
      (← value_step e earlier) (guards_of cell lock (e ∷ earlier) later (second_true _ _ h)),
)

is_guarded : (cell lock : ℕ) (earlier es : List Stamped) → Guards cell lock (value_in earlier) es
    → list_all (is_guarded_at cell lock) (places_after earlier es) ≡ true
is_guarded cell lock earlier [] h = refl
is_guarded cell lock earlier (e ∷ later) h =
    both_true (is_guarded_at cell lock (record { earlier = earlier; here = e; later = later })) _
    (implies (is_access_of cell e.did) _
    (λ access. is_same (value_in earlier lock) (e.caller + 1) (h.0 access)))
    (is_guarded cell lock (e ∷ earlier) later (rw (value_step e earlier) h.1))

-- what a test of a race-free cell tells
pub free_of : (cells : Cells) (history : List Stamped) (cell : ℕ) → is_race_free cells history cell
    ≡ true → Free cells (value_in []) history cell
unfolding is_race_free
free_of cells history cell e =
    first (either_true (list_any (is_used_by_alone history cell) (numbers_below cells.callers)
    || is_unwritten history cell) _ e)
  where
    by_caller : list_any (is_used_by_alone history cell) (numbers_below cells.callers) ≡ true
        → Free cells (value_in []) history cell
    by_caller e =
        let found = any_tells (is_used_by_alone history cell) 0 cells.callers e in
        alone found.0 (omega (arith, found.2)) (only_of cell found.0 history found.3)

    by_lock : list_any (is_guarded_by history cell) (numbers_from cells.plain cells.locks) ≡ true
        → Free cells (value_in []) history cell
    by_lock e =
        let found = any_tells (is_guarded_by history cell) cells.plain cells.locks e in
        guarded found.0 (is_lock_of cells found.0 found.1 found.2)
        (guards_of cell found.0 [] history found.3)

    second : (list_any (is_used_by_alone history cell) (numbers_below cells.callers) ≡ true)
        ⊎ (is_unwritten history cell ≡ true)
        → Free cells (value_in []) history cell
    second (inl e) = by_caller e
    second (inr e) = unwritten (unwritten_of cell history e)

    first : ((list_any (is_used_by_alone history cell) (numbers_below cells.callers)
        || is_unwritten history cell) ≡ true)
        ⊎ (list_any (is_guarded_by history cell) (numbers_from cells.plain cells.locks) ≡ true)
        → Free cells (value_in []) history cell
    first (inl e) = second (either_true _ _ e)
    first (inr e) = by_lock e

-- and when it says so
pub is_free : (cells : Cells) (history : List Stamped) (cell : ℕ)
    → Free cells (value_in []) history cell → is_race_free cells history cell ≡ true
unfolding is_race_free
is_free cells history cell (alone c low h) = or_left
    (list_any (is_used_by_alone history cell) (numbers_below cells.callers)
    || is_unwritten history cell) _
    (or_left (list_any (is_used_by_alone history cell) (numbers_below cells.callers)) _
    (tells_any (is_used_by_alone history cell) 0 cells.callers c (omega arith) (omega arith)
    (is_only _ c _ h)))
is_free cells history cell (unwritten h) = search (is_never_written, arith)
is_free cells history cell (guarded lock kind h) = or_right
    (list_any (is_used_by_alone history cell) (numbers_below cells.callers)
    || is_unwritten history cell) _
    (tells_any (is_guarded_by history cell) cells.plain cells.locks lock
    (at_most_of _ _ (first_true _ _ kind))
    (below_of _ _ (second_true (nat_le cells.plain lock) _ kind)) (is_guarded _ _ [] _ h))

-- numbers don't matter
only_numbered : (cell c k : ℕ) (es : List Stamped) → Only cell c es
    → Only cell c (numbered_from k es)
only_numbered cell c k [] h = tt
only_numbered cell c k (e ∷ later) h = (h.0, only_numbered cell c (k + 1) later h.1)

unwritten_numbered : (cell k : ℕ) (es : List Stamped) → Unwritten cell es
    → Unwritten cell (numbered_from k es)
unwritten_numbered cell k [] h = tt
unwritten_numbered cell k (e ∷ later) h = (h.0, unwritten_numbered cell (k + 1) later h.1)

guards_numbered : (cell lock k : ℕ) (m : ℕ → ℕ) (es : List Stamped) → Guards cell lock m es
    → Guards cell lock m (numbered_from k es)
guards_numbered cell lock k m [] h = tt
guards_numbered cell lock k m (e ∷ later) h =
    (h.0, guards_numbered cell lock (k + 1) (step m e) later h.1)

pub free_numbered : (cells : Cells) (m : ℕ → ℕ) (es : List Stamped) (cell k : ℕ)
    → Free cells m es cell → Free cells m (numbered_from k es) cell
free_numbered cells m es cell k (alone c low h) = alone c low (only_numbered cell c k es h)
free_numbered cells m es cell k (unwritten h) = unwritten (unwritten_numbered cell k es h)
free_numbered cells m es cell k (guarded lock kind h) = guarded lock kind
    (guards_numbered cell lock k m es h)
