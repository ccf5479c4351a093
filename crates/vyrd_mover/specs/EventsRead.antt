-- What is kept of the events that were read so far says which history was read.
use Rattle.std.specs.Prelude.{◌≡◌, Result, Ok, Err}
use Rattle.vyrd_base.specs.Histories.{cells_of}
use Rattle.vyrd_mover.specs.declared.blocks.Blocks.{Blocks}
use Rattle.vyrd_mover.specs.declared.fault.HistoryRule.{HistoryRule}
use Rattle.vyrd_mover.specs.Blocks.{blocks_of}
use Rattle.vyrd_mover.specs.HistoryText.{Recorded}
use Rattle.vyrd_mover.specs.HistoryReading.{Refusal}
use Rattle.vyrd_mover.specs.Remembering.{Remembered, Remembers}
use Rattle.vyrd_mover.specs.Taking.{Taken, HasTaken}

-- this history was read
pub record HaveRead (s : Remembered) (t : Taken) (r : Recorded) : Type 0 where
  pub header : s.header ≡ r.header
  pub same : t.header ≡ r.header
  pub remembers : Remembers s r.history
  pub taken : HasTaken t r.history

-- some history was read
pub record HaveReadSome (s : Remembered) (t : Taken) : Type 0 where
  pub recorded : Recorded
  pub have : HaveRead s t recorded

-- this history was read, if one was
abbrev pub HaveReadOn : Remembered → Taken → Result Recorded HistoryRule → Type 0
HaveReadOn s t (Ok r) = HaveRead s t r
HaveReadOn s t (Err rule) = ⊥

-- what is said of the blocks of a history that was read
abbrev pub AreBlocksOf : Result Recorded Refusal → Blocks → Type 0
AreBlocksOf (Ok r) blocks = blocks ≡ blocks_of (cells_of r.header) r.history
AreBlocksOf (Err refusal) blocks = ⊥
