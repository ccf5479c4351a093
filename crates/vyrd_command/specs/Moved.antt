-- What `movers` answers about an input: how the bytes are refused as a history, or what is said of
-- the history's blocks.
use Rattle.std.specs.Prelude.{◌≡◌, ◌≤◌, ◌⊎◌, ℕ, List, Option, Result, Ok, Err}
use Rattle.vyrd_base.specs.Devices.{SourceKnown}
use Rattle.vyrd_base.specs.Histories.{cells_of}
use Rattle.vyrd_mover.specs.declared.blocks.Blocks.{Blocks}
use Rattle.vyrd_mover.specs.declared.blocks.Blocks.TheVariants.{Reducible, Broken}
use Rattle.vyrd_mover.specs.Blocks.{blocks_of}
use Rattle.vyrd_mover.specs.BlocksText.{blocks_text}
use Rattle.vyrd_mover.specs.HistoryText.{Recorded}
use Rattle.vyrd_mover.specs.HistoryReading.{Refusal, history_reading}
use Rattle.vyrd_mover.specs.HistoryReaders.{ReaderState, HasRead}
use Rattle.vyrd_mover.specs.LongHistories.{longest_history}
use Rattle.vyrd_mover.specs.Refusals.{history_refusal_text}
use Rattle.vyrd_command.specs.Inputs.{IsInputRead}
use Rattle.vyrd_command.specs.Answering.{Answers}

-- the status that the answer about blocks ends with
abbrev pub status_of_blocks : Blocks → ℕ
status_of_blocks (Reducible blocks) = 0
status_of_blocks (Broken open_line at_line) = 1

-- what is said of the blocks of a history that was read
abbrev pub said_of_blocks : Recorded → Blocks
said_of_blocks r = blocks_of (cells_of r.header) r.history

-- the status and the text of the answer to what was read
abbrev pub IsMoversAnswer : Result Recorded Refusal → ℕ → List ℕ → Type 0
IsMoversAnswer (Err refusal) status text =
    (status ≡ 10) × (text ≡ history_refusal_text refusal.line refusal.rule)
IsMoversAnswer (Ok r) status text =
    (status ≡ status_of_blocks (said_of_blocks r)) × (text ≡ blocks_text (said_of_blocks r))

-- These bytes were read of a source, by a reader of a history.
pub record IsHistoryRead (before after : SourceKnown) (reader : ReaderState) : Type 0 where
  pub bytes : List ℕ
  pub input : IsInputRead longest_history before after bytes
  pub read : HasRead reader bytes

-- the status and the text of an answer to an input
abbrev pub AnswersMovers : Option (List ℕ) → ℕ → List ℕ → Type 0
AnswersMovers = Answers history_reading IsMoversAnswer

-- the statuses with which a history is answered
abbrev pub IsMoversStatus : ℕ → Type 0
IsMoversStatus status = (status ≤ 1) ⊎ (status ≡ 10)
