-- Race-free cells. No two callers can be at odds over such a cell: one caller alone uses it, or
-- nobody writes it, or one lock is held by every caller that uses it.
use Rattle.std.specs.Prelude.{ℕ, ◌+◌, Bool, false, not, ◌||◌, ◌==◌, List}
use Rattle.std.specs.List.{list_all, list_any}
use Rattle.vyrd_base.specs.declared.history.Did.{Did}
use Rattle.vyrd_base.specs.declared.history.Did.TheVariants.{Read, Wrote, Took, Gave, Marked}
use Rattle.vyrd_base.specs.declared.history.Stamped.{Stamped}
use Rattle.vyrd_base.specs.Places.{Place, places, numbers_from, numbers_below}
use Rattle.vyrd_base.specs.Histories.{Cells, value_in}

-- whether this writes the cell
abbrev pub is_write_to : ℕ → Did → Bool
is_write_to cell (Wrote other value) = other == cell
is_write_to cell (Read other value) = false
is_write_to cell (Took lock) = false
is_write_to cell (Gave lock) = false
is_write_to cell (Marked kind) = false

-- whether this reads or writes the cell
abbrev pub is_access_of : ℕ → Did → Bool
is_access_of cell (Read other value) = other == cell
is_access_of cell (Wrote other value) = other == cell
is_access_of cell (Took lock) = false
is_access_of cell (Gave lock) = false
is_access_of cell (Marked kind) = false

-- whether all reads and writes of the cell are this caller's
abbrev pub is_used_by_alone : List Stamped → ℕ → ℕ → Bool
is_used_by_alone history cell caller =
    list_all (λ e. not (is_access_of cell e.did) || e.caller == caller) history

-- whether none of them is a write
abbrev pub is_unwritten : List Stamped → ℕ → Bool
is_unwritten history cell = list_all (λ e. not (is_write_to cell e.did)) history

-- whether the event's caller holds the lock, if the event reads or writes the cell
abbrev pub is_guarded_at : ℕ → ℕ → Place Stamped → Bool
is_guarded_at cell lock place =
    not (is_access_of cell place.here.did) || value_in place.earlier lock == place.here.caller + 1

-- whether at each read and write of the cell the lock has the value of that event's caller plus 1
abbrev pub is_guarded_by : List Stamped → ℕ → ℕ → Bool
is_guarded_by history cell lock = list_all (is_guarded_at cell lock) (places history)

-- whether a plain cell is race-free: it is used by one caller alone, or never written, or some lock
-- guards it
unfoldable pub is_race_free : Cells → List Stamped → ℕ → Bool
is_race_free cells history cell =
    list_any (is_used_by_alone history cell) (numbers_below cells.callers)
    || is_unwritten history cell
    || list_any (is_guarded_by history cell) (numbers_from cells.plain cells.locks)
