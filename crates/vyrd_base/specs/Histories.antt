-- Legal histories of cells, and the log that a history leaves. In a legal history each read finds
-- what was last written, a lock is taken only while it is free, and it is given back only by the
-- caller that holds it.
use Rattle.std.specs.Prelude.{ℕ, ◌+◌, ◌^◌, Bool, true, false, not, ◌&&◌, ◌==◌, nat_lt, nat_le, List}
use Rattle.std.specs.Prelude.{map, Option, Some, None, unwrap_or, filter_map, if◌then◌else◌}
use Rattle.std.specs.List.{list_all}
use Rattle.vyrd_base.specs.declared.header.Header.{Header}
use Rattle.vyrd_base.specs.declared.log.Kind.{Kind}
use Rattle.vyrd_base.specs.declared.log.Kind.TheVariants.{Write}
use Rattle.vyrd_base.specs.declared.log.Entry.{Entry}
use Rattle.vyrd_base.specs.declared.history.Did.{Did}
use Rattle.vyrd_base.specs.declared.history.Did.TheVariants.{Read, Wrote, Took, Gave, Marked}
use Rattle.vyrd_base.specs.declared.history.Stamped.{Stamped}
use Rattle.vyrd_base.specs.Places.{Place, places, position_of, newest_first, first_answer}
use Rattle.vyrd_base.specs.Places.{numbers_below}
use Rattle.vyrd_base.specs.Layout.{plain_words, lock_words}

-- how many plain cells, locks and callers there are
pub record Cells : Type 0 where
  pub plain : ℕ
  pub locks : ℕ
  pub callers : ℕ

-- the cells of a header: plain words first, then locks
abbrev pub cells_of : Header → Cells
cells_of h = record { plain = plain_words h; locks = lock_words h; callers = h.callers }

-- the plain cells are those from 0 on
abbrev pub is_plain : Cells → ℕ → Bool
is_plain cells cell = nat_lt cell cells.plain

-- the locks are the cells after the plain ones
abbrev pub is_lock : Cells → ℕ → Bool
is_lock cells cell = nat_le cells.plain cell && nat_lt cell (cells.plain + cells.locks)

-- what an event makes of the cell, if it changes it: a held lock has its holder's number plus 1
abbrev pub made_of : ℕ → ℕ → Did → Option ℕ
made_of cell caller (Read other value) = None
made_of cell caller (Wrote other value) = if other == cell then Some value else None
made_of cell caller (Took other) = if other == cell then Some (caller + 1) else None
made_of cell caller (Gave other) = if other == cell then Some 0 else None
made_of cell caller (Marked kind) = None

-- the cell's value after these events, given the newest first: what the last event that changed it
-- made of it
abbrev pub value_in : List Stamped → ℕ → ℕ
value_in earlier cell = unwrap_or (first_answer (λ e. made_of cell e.caller e.did) earlier) 0

-- the plain words after a history
unfoldable pub words_of_history : Header → List Stamped → List ℕ
words_of_history h history = map (value_in (newest_first history)) (numbers_below (plain_words h))

-- whether an entry is a write, which isn't a mark
abbrev pub is_write : Kind → Bool
is_write (Write word value) = true
is_write _ = false

-- whether a caller may do this after these events
abbrev pub may_do : Cells → List Stamped → ℕ → Did → Bool
may_do cells earlier caller (Read cell value) =
    is_plain cells cell && value == value_in earlier cell
may_do cells earlier caller (Wrote cell value) = is_plain cells cell && nat_lt value (2 ^ 63)
may_do cells earlier caller (Took cell) = is_lock cells cell && value_in earlier cell == 0
may_do cells earlier caller (Gave cell) = is_lock cells cell && value_in earlier cell == caller + 1
may_do cells earlier caller (Marked kind) = not (is_write kind)

-- whether the event at a place has the place's number, a caller in range, and may happen there
abbrev pub is_legal_at : Cells → Place Stamped → Bool
is_legal_at cells place =
    place.here.number == position_of place && nat_lt place.here.caller cells.callers
    && may_do cells place.earlier place.here.caller place.here.did

-- whether each event may happen where it stands
unfoldable pub is_legal : Cells → List Stamped → Bool
is_legal cells history = list_all (is_legal_at cells) (places history)

-- a mark or a write as an entry
abbrev pub logged : ℕ → Did → Option Entry
logged caller (Wrote cell value) = Some (record { caller = caller; kind = Write cell value })
logged caller (Marked kind) = Some (record { caller = caller; kind = kind })
logged caller _ = None

-- the log that a history leaves: its marks and its writes
unfoldable pub log_of : List Stamped → List Entry
log_of history = filter_map (λ e. logged e.caller e.did) history
