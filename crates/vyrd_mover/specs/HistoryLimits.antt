-- What a history keeps to that has a text: its header has version 1, it is legal, its blocks are
-- opened and ended in turn, its numbers and marks can be spelled, and its lines are at most
-- 4,000,000.
use Rattle.std.specs.Prelude.{◌≡◌, ◌+◌, ◌≤◌, true, length}
use Rattle.std.specs.List.{AllByRecursion}
use Rattle.vyrd_base.specs.Histories.{cells_of, is_legal}
use Rattle.vyrd_mover.specs.HistoryText.{Recorded}
use Rattle.vyrd_mover.specs.HistoryLines.{is_event_of}
use Rattle.vyrd_mover.specs.HistoryReading.{are_blocks_in_turn}

-- the history keeps to all of it
pub record KeepsLimits (r : Recorded) : Type 0 where
  pub version : r.header.version ≡ 1
  pub legal : is_legal (cells_of r.header) r.history ≡ true
  pub in_turn : are_blocks_in_turn r.history ≡ true
  pub spelled : AllByRecursion (λ e. is_event_of r.header.subject e ≡ true) r.history
  pub few : length r.history + 2 ≤ 4000000
