-- What `run` answers about an input: how the bytes are refused, that a caller's events are spent,
-- or the verdict about the log of a live run.
use Rattle.std.specs.Prelude.{[], ◌≡◌, ◌<◌, ◌≤◌, ◌⊎◌, ℕ, true, List, ◌++◌, Result, Ok, Err, Option}
use Rattle.std.specs.Prelude.{codes, decimal}
use Rattle.vyrd_base.specs.declared.history.Stamped.{Stamped}
use Rattle.vyrd_base.specs.declared.verdict.Verdict.{Verdict}
use Rattle.vyrd_base.specs.Histories.{cells_of, is_legal, log_of}
use Rattle.vyrd_base.specs.Spelling.{ended_line}
use Rattle.vyrd_base.specs.Rules.{rules_of}
use Rattle.vyrd_base.specs.Verdicts.{verdict}
use Rattle.vyrd_memory.specs.Bounds.{bounds_of}
use Rattle.vyrd_memory.specs.Runs.{PlayToTheEnd}
use Rattle.vyrd_trace.specs.Hands.{most_events}
use Rattle.vyrd_work.specs.Workloads.{Workload}
use Rattle.vyrd_work.specs.WorkReading.{Refusal, work_reading}
use Rattle.vyrd_work.specs.WorkScripts.{ops_of, work_scripts}
use Rattle.vyrd_work.specs.Refusals.{refusal_text}
use Rattle.vyrd_live.specs.LiveRuns.{AllHadRoom, IsOverrun}
use Rattle.vyrd_check_command.specs.Outputs.{status_of}
use Rattle.vyrd_command.specs.declared.show.Show.{Show}
use Rattle.vyrd_command.specs.Answering.{Answers}
use Rattle.vyrd_command.specs.Steps.{run_text, NamesOnlyRaces}

-- The history is legal, each caller's part plays the caller's script to its end, and this is the
-- verdict about its log. If it names a rule, it is that of raced blocks. Each operation began with
-- room for its events.
pub record IsLiveRun (w : Workload) (history : List Stamped) (v : Verdict) : Type 0 where
  pub legal : is_legal (cells_of w.header) history ≡ true
  pub parts : PlayToTheEnd (work_scripts w) history
  pub room : AllHadRoom w.header most_events history
  pub verdict_is : v ≡ verdict (rules_of w.header) [] (log_of history)
  pub races : NamesOnlyRaces v

-- the status and the text of the answer to a workload whose live run ends
pub record TellsLive (show : Show) (w : Workload) (status : ℕ) (text : List ℕ) : Type 0 where
  pub history : List Stamped
  pub verdict : Verdict
  pub live : IsLiveRun w history verdict
  pub status_is : status ≡ status_of verdict
  pub text_is : text ≡ run_text show w.header history verdict

-- the line of a run whose events are spent
abbrev pub spent_line : ℕ → List ℕ
spent_line caller = ended_line (codes "events spent by caller " ++ decimal caller)

-- The status and the text of the answer to a workload whose live run the limit of events ended: it
-- is lower than the sum of the bounds of that caller's operations.
pub record TellsSpent (w : Workload) (status : ℕ) (text : List ℕ) : Type 0 where
  pub caller : ℕ
  pub history : List Stamped
  pub legal : is_legal (cells_of w.header) history ≡ true
  pub overrun : IsOverrun w.header most_events (work_scripts w) caller history
  pub too_low : most_events < bounds_of w.header (ops_of caller w.ops)
  pub status_is : status ≡ 9
  pub text_is : text ≡ spent_line caller

-- the status and the text of the answer to what was read
abbrev pub IsRunAnswer : Show → Result Workload Refusal → ℕ → List ℕ → Type 0
IsRunAnswer show (Err refusal) status text =
    (status ≡ 7) × (text ≡ refusal_text refusal.line refusal.rule)
IsRunAnswer show (Ok w) status text = TellsLive show w status text ⊎ TellsSpent w status text

-- the status and the text of an answer to an input
abbrev pub AnswersRun : Show → Option (List ℕ) → ℕ → List ℕ → Type 0
AnswersRun show = Answers work_reading (IsRunAnswer show)

-- the statuses with which a workload is answered
abbrev pub IsRunStatus : ℕ → Type 0
IsRunStatus status = (status ≤ 2) ⊎ (status ≡ 7) ⊎ (status ≡ 9)
