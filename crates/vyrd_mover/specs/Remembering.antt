-- What is remembered of the events so far: the value of each cell, and which callers have an open
-- block.
use Rattle.std.specs.Prelude.{◌≡◌, ℕ, ◌+◌, ◌<◌, Bool, false, List, length, slice_index}
use Rattle.std.specs.Prelude.{slice_index_or}
use Rattle.vyrd_base.specs.declared.header.Header.{Header}
use Rattle.vyrd_base.specs.declared.history.Stamped.{Stamped}
use Rattle.vyrd_base.specs.Layout.{plain_words, lock_words}
use Rattle.vyrd_base.specs.Places.{newest_first}
use Rattle.vyrd_base.specs.Histories.{value_in}
use Rattle.vyrd_mover.specs.HistoryReading.{in_block}

-- the header, the value of each cell, and which callers have an open block
pub record Remembered : Type 0 where
  pub header : Header
  pub values : List ℕ
  pub open_blocks : List Bool

-- there is a value for each cell, and an answer for each caller
pub record HasRoom (s : Remembered) : Type 0 where
  pub all_values : length s.values ≡ plain_words s.header + lock_words s.header
  pub all_callers : length s.open_blocks ≡ s.header.callers

-- what is remembered says what these events leave
pub record Remembers (s : Remembered) (history : List Stamped) : Type 0 where
  pub values_are : (cell : ℕ) → cell < plain_words s.header + lock_words s.header
      → slice_index s.values cell ≡ value_in (newest_first history) cell
  pub blocks_are : (c : ℕ) → c < s.header.callers
      → slice_index_or s.open_blocks c false ≡ in_block c (newest_first history)
