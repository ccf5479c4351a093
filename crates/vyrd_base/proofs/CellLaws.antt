-- Which cells are plain words, and which are locks.
use Rattle.vyrd_base.proofs.Prelude.{◌≡◌, ℕ, ◌+◌, ◌<◌, ◌≤◌, true, false, arith, ◌==◌, nat_tests}
use Rattle.vyrd_base.proofs.Prelude.{both_true, first_true, is_at_most, is_below}
use Rattle.vyrd_base.specs.Histories.{Cells, is_plain, is_lock}

-- a cell behind the plain words is a lock
pub is_lock_of : (cells : Cells) (cell : ℕ) → cells.plain ≤ cell → cell < cells.plain + cells.locks
    → is_lock cells cell ≡ true
is_lock_of cells cell from to = search (both_true, is_at_most, is_below, arith)

-- a plain word isn't a lock
pub plain_isnt : (cells : Cells) (cell lock : ℕ) → is_plain cells cell ≡ true → is_lock cells lock
    ≡ true → (cell == lock) ≡ false
plain_isnt cells cell lock plain is = grind (arith, nat_tests, plain, first_true)
