-- What `batch` answers about an input: at which log it is refused, or a line for each log's
-- verdict.
use Rattle.std.specs.Prelude.{◌≡◌, ◌≤◌, ◌⊎◌, ℕ, List, length, Option, Result, Ok, Err}
use Rattle.vyrd_base.specs.Devices.{SourceKnown}
use Rattle.vyrd_batch.specs.Batches.{batch_logs}
use Rattle.vyrd_batch.specs.BatchAnswers.{verdicts_of, batch_text, batch_status, refused_line}
use Rattle.vyrd_batch.specs.LongBatches.{longest_batch_input}
use Rattle.vyrd_batch.specs.Rounds.{BatchView, IsJudged}
use Rattle.vyrd_check_command.specs.Inputs.{IsTaken}
use Rattle.vyrd_command.specs.Inputs.{IsInputRead}
use Rattle.vyrd_command.specs.Answering.{Answers}

-- The first `count` bytes of a source were read, and its first logs judged. These bytes are left.
pub record IsReading (before now : SourceKnown) (judge : BatchView) (rest : List ℕ)
    (count : ℕ) : Type 0 where
  pub taken : List ℕ
  pub told : IsTaken before.rest taken now.rest
  pub judged : IsJudged taken judge rest
  pub many : length taken ≡ count

-- A source was read as far as it is, and its first logs judged. These bytes are left.
pub record IsBatchRead (before after : SourceKnown) (judge : BatchView)
    (rest : List ℕ) : Type 0 where
  pub taken : List ℕ
  pub read : IsInputRead longest_batch_input before after taken
  pub judged : IsJudged taken judge rest

-- the status and the text of the answer to what was read
abbrev pub IsBatchAnswer : Result (List (List ℕ)) ℕ → ℕ → List ℕ → Type 0
IsBatchAnswer (Err log) status text = (status ≡ 11) × (text ≡ refused_line log)
IsBatchAnswer (Ok logs) status text =
    (status ≡ batch_status (verdicts_of logs)) × (text ≡ batch_text (verdicts_of logs))

-- the status and the text of an answer to an input
abbrev pub AnswersBatch : Option (List ℕ) → ℕ → List ℕ → Type 0
AnswersBatch = Answers batch_logs IsBatchAnswer

-- the statuses with which a batch is answered
abbrev pub IsBatchStatus : ℕ → Type 0
IsBatchStatus status = (status ≤ 2) ⊎ (status ≡ 11)
