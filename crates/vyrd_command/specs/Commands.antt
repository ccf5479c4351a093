-- What words of each form are answered, and what is taken of the source for it. Words that are none
-- of the forms get the usage line.
use Rattle.std.specs.Prelude.{◌≡◌, ◌≤◌, ◌⊎◌, ⊤, ℕ, Bool, true, false, List, length, Option, Some}
use Rattle.std.specs.Prelude.{None, is_some}
use Rattle.vyrd_base.specs.Devices.{SourceKnown}
use Rattle.vyrd_base.specs.Limits.{most_lines}
use Rattle.vyrd_work.specs.LongInputs.{longest_input}
use Rattle.vyrd_mover.specs.LongHistories.{longest_history}
use Rattle.vyrd_batch.specs.LongBatches.{longest_batch_input}
use Rattle.vyrd_check_command.specs.Outputs.{Appends, AppendsFront}
use Rattle.vyrd_check_command.specs.Checks.{IsJudged, IsSettled, IsReadNoFurther}
use Rattle.vyrd_command.specs.declared.form.Form.{Form}
use Rattle.vyrd_command.specs.declared.form.Form.TheVariants as asked
use Rattle.vyrd_command.specs.Inputs.{IsInputTaken, IsFewTaken}
use Rattle.vyrd_command.specs.Forms.{usage_line}
use Rattle.vyrd_command.specs.Steps.{AnswersStep, IsStepStatus}
use Rattle.vyrd_command.specs.Runs.{AnswersRun, IsRunStatus}
use Rattle.vyrd_command.specs.Generated.{IsGenAnswer, IsGenStatus}
use Rattle.vyrd_command.specs.Moved.{AnswersMovers, IsMoversStatus}
use Rattle.vyrd_command.specs.Batches.{AnswersBatch, IsBatchStatus}
use Rattle.vyrd_command.specs.Explains.{AnswersExplain, IsExplainTaken, IsExplainNoFurther}
use Rattle.vyrd_command.specs.Explains.{most_explained}

-- the statuses of an answer
abbrev pub IsAnswerStatus : Option Form → ℕ → Type 0
IsAnswerStatus None status = status ≡ 3
IsAnswerStatus (Some asked.Check) status = status ≤ 2
IsAnswerStatus (Some (asked.Step show)) status = IsStepStatus status
IsAnswerStatus (Some (asked.Run show)) status = IsRunStatus status
IsAnswerStatus (Some (asked.Gen n)) status = IsGenStatus status
IsAnswerStatus (Some asked.Movers) status = IsMoversStatus status
IsAnswerStatus (Some asked.Batch) status = IsBatchStatus status
IsAnswerStatus (Some (asked.Tell about)) status = status ≤ 2

-- This status and this text are those of an answer to the input.
abbrev pub IsAnswer : Option Form → Option (List ℕ) → ℕ → List ℕ → Type 0
IsAnswer None input status text = text ≡ usage_line
IsAnswer (Some asked.Check) input status text = IsJudged most_lines input status text
IsAnswer (Some (asked.Step show)) input status text = AnswersStep show input status text
IsAnswer (Some (asked.Run show)) input status text = AnswersRun show input status text
IsAnswer (Some (asked.Gen n)) input status text = IsGenAnswer n status text
IsAnswer (Some asked.Movers) input status text = AnswersMovers input status text
IsAnswer (Some asked.Batch) input status text = AnswersBatch input status text
IsAnswer (Some (asked.Tell about)) input status text =
    AnswersExplain about most_explained input status text

-- whether the source is read
abbrev pub reads : Option Form → Bool
reads None = false
reads (Some asked.Check) = true
reads (Some (asked.Step show)) = true
reads (Some (asked.Run show)) = true
reads (Some (asked.Gen n)) = false
reads (Some asked.Movers) = true
reads (Some asked.Batch) = true
reads (Some (asked.Tell about)) = true

-- The statuses that a call may end with: an answer's, 4 where the source is read, 5, and 6 if more
-- is done than to write the usage line.
abbrev pub IsStatus : Option Form → ℕ → Type 0
IsStatus form status = IsAnswerStatus form status ⊎ ((status ≡ 4) × (reads form ≡ true))
    ⊎ (status ≡ 5) ⊎ ((status ≡ 6) × (is_some form ≡ true))

-- As much was taken of the source as an answer with this status needs.
abbrev pub IsEnough : Option Form → ℕ → SourceKnown → SourceKnown → Type 0
IsEnough None status before after = ⊤
IsEnough (Some asked.Check) status before after = IsSettled most_lines before after
IsEnough (Some (asked.Step show)) status before after =
    IsInputTaken longest_input 7 status before after
IsEnough (Some (asked.Run show)) status before after =
    IsInputTaken longest_input 7 status before after
IsEnough (Some (asked.Gen n)) status before after = ⊤
IsEnough (Some asked.Movers) status before after =
    IsInputTaken longest_history 10 status before after
IsEnough (Some asked.Batch) status before after =
    IsInputTaken longest_batch_input 11 status before after
IsEnough (Some (asked.Tell about)) status before after = IsExplainTaken most_explained before after

-- And no more than that: of a log at most one read more, and of all other inputs no byte more.
abbrev pub IsNoFurther : Option Form → SourceKnown → SourceKnown → Type 0
IsNoFurther None before after = ⊤
IsNoFurther (Some asked.Check) before after = IsReadNoFurther most_lines before after
IsNoFurther (Some (asked.Step show)) before after = IsFewTaken longest_input before after
IsNoFurther (Some (asked.Run show)) before after = IsFewTaken longest_input before after
IsNoFurther (Some (asked.Gen n)) before after = ⊤
IsNoFurther (Some asked.Movers) before after = IsFewTaken longest_history before after
IsNoFurther (Some asked.Batch) before after = IsFewTaken longest_batch_input before after
IsNoFurther (Some (asked.Tell about)) before after = IsExplainNoFurther most_explained before after

-- the sink has taken the text of an answer with this status
pub record HasAnswered (form : Option Form) (input : Option (List ℕ)) (status : ℕ)
    (before after : Option (List ℕ)) : Type 0 where
  pub text : List ℕ
  pub answer : IsAnswer form input status text
  pub written : Appends before after text

-- the sink has taken some of the first bytes of it
pub record HasAnsweredInPart (form : Option Form)
    (input before after : Option (List ℕ)) : Type 0 where
  pub status : ℕ
  pub text : List ℕ
  pub answer : IsAnswer form input status text
  pub written : AppendsFront before after text

-- the sink has sure room for the text of any answer
abbrev pub HasRoom : Option Form → Option (List ℕ) → ℕ → Type 0
HasRoom form input room =
    (status : ℕ) (text : List ℕ) → IsAnswer form input status text → length text ≤ room
