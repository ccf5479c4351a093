-- What `step` answers about an input: how the bytes are refused, that the run by turns gets stuck,
-- or the verdict about its log.
use Rattle.std.specs.Prelude.{[], ◌≡◌, ◌≤◌, ◌⊎◌, ℕ, List, ◌++◌, Option, Result, Ok, Err, codes}
use Rattle.vyrd_base.specs.declared.header.Header.{Header}
use Rattle.vyrd_base.specs.declared.history.Stamped.{Stamped}
use Rattle.vyrd_base.specs.declared.verdict.Rule.{Rule}
use Rattle.vyrd_base.specs.declared.verdict.Rule.TheVariants.{BlockRaced}
use Rattle.vyrd_base.specs.declared.verdict.Verdict.{Verdict}
use Rattle.vyrd_base.specs.declared.verdict.Verdict.TheVariants.{Malformed}
use Rattle.vyrd_base.specs.Histories.{log_of}
use Rattle.vyrd_base.specs.Spelling.{log_text}
use Rattle.vyrd_base.specs.Rules.{rules_of}
use Rattle.vyrd_base.specs.Verdicts.{verdict}
use Rattle.vyrd_base.specs.VerdictText.{verdict_text}
use Rattle.vyrd_memory.specs.Turns.{RunsTo, GetsStuck}
use Rattle.vyrd_work.specs.Workloads.{Workload}
use Rattle.vyrd_work.specs.WorkReading.{Refusal, work_reading}
use Rattle.vyrd_work.specs.WorkScripts.{work_scripts}
use Rattle.vyrd_work.specs.Refusals.{refusal_text}
use Rattle.vyrd_mover.specs.HistoryText.{history_text}
use Rattle.vyrd_check_command.specs.Outputs.{status_of}
use Rattle.vyrd_command.specs.declared.show.Show.{Show}
use Rattle.vyrd_command.specs.declared.show.Show.TheVariants as shown
use Rattle.vyrd_command.specs.Answering.{Answers}

-- what is shown of a run with this history and this verdict: the verdict's line, or the log's text
-- and then that line, or the history's text
abbrev pub run_text : Show → Header → List Stamped → Verdict → List ℕ
run_text shown.Verdict h history v = verdict_text v
run_text shown.Log h history v = log_text h [] (log_of history) ++ verdict_text v
run_text shown.History h history v = history_text (record { header = h; history = history })

-- the line of a run that gets stuck
abbrev pub stuck_line : List ℕ
stuck_line = codes "stuck\n"

-- a verdict that names a rule names that of raced blocks
abbrev pub NamesOnlyRaces : Verdict → Type 0
NamesOnlyRaces v = (line : ℕ) (rule : Rule) → v ≡ Malformed line rule → rule ≡ BlockRaced

-- The run by turns of the workload ends with this history, and this is the verdict about its log.
-- If it names a rule, it is that of raced blocks.
pub record IsTurnedTo (w : Workload) (history : List Stamped) (v : Verdict) : Type 0 where
  pub runs : RunsTo (work_scripts w) w.turns history
  pub verdict_is : v ≡ verdict (rules_of w.header) [] (log_of history)
  pub races : NamesOnlyRaces v

-- the status and the text of the answer to a workload whose run by turns ends
pub record TellsRun (show : Show) (w : Workload) (status : ℕ) (text : List ℕ) : Type 0 where
  pub history : List Stamped
  pub verdict : Verdict
  pub turned : IsTurnedTo w history verdict
  pub status_is : status ≡ status_of verdict
  pub text_is : text ≡ run_text show w.header history verdict

-- the status and the text of the answer to a workload whose run by turns gets stuck
pub record TellsStuck (w : Workload) (status : ℕ) (text : List ℕ) : Type 0 where
  pub stuck : GetsStuck (work_scripts w) w.turns
  pub status_is : status ≡ 8
  pub text_is : text ≡ stuck_line

-- the status and the text of the answer to what was read
abbrev pub IsStepAnswer : Show → Result Workload Refusal → ℕ → List ℕ → Type 0
IsStepAnswer show (Err refusal) status text =
    (status ≡ 7) × (text ≡ refusal_text refusal.line refusal.rule)
IsStepAnswer show (Ok w) status text = TellsRun show w status text ⊎ TellsStuck w status text

-- the status and the text of an answer to an input
abbrev pub AnswersStep : Show → Option (List ℕ) → ℕ → List ℕ → Type 0
AnswersStep show = Answers work_reading (IsStepAnswer show)

-- the statuses with which a workload is answered
abbrev pub IsStepStatus : ℕ → Type 0
IsStepStatus status = (status ≤ 2) ⊎ (status ≡ 7) ⊎ (status ≡ 8)
