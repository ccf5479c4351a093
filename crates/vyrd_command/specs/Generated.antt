-- What `gen` answers: how many events the run by turns of a generated workload has, and the verdict
-- about its log.
use Rattle.std.specs.Prelude.{◌≡◌, ◌≤◌, ◌⊎◌, ℕ, List, ◌++◌, length, codes, decimal}
use Rattle.vyrd_base.specs.declared.history.Stamped.{Stamped}
use Rattle.vyrd_base.specs.declared.verdict.Verdict.{Verdict}
use Rattle.vyrd_base.specs.Spelling.{ended_line}
use Rattle.vyrd_base.specs.VerdictText.{verdict_text}
use Rattle.vyrd_work.specs.Workloads.{Workload}
use Rattle.vyrd_work.specs.Generated.{generated}
use Rattle.vyrd_check_command.specs.Outputs.{status_of}
use Rattle.vyrd_command.specs.Steps.{IsTurnedTo, TellsStuck}

-- how many operations there are, and how many events their run has
abbrev pub generated_line : ℕ → ℕ → List ℕ
generated_line n events = ended_line (codes "generated: " ++ decimal n ++ codes " operations, "
    ++ decimal events ++ codes " events")

-- the status and the text of the answer to a workload of n operations whose run by turns ends
pub record CountsRun (n : ℕ) (w : Workload) (status : ℕ) (text : List ℕ) : Type 0 where
  pub history : List Stamped
  pub verdict : Verdict
  pub turned : IsTurnedTo w history verdict
  pub status_is : status ≡ status_of verdict
  pub text_is : text ≡ generated_line n (length history) ++ verdict_text verdict

-- the status and the text of the answer to this many operations
abbrev pub IsGenAnswer : ℕ → ℕ → List ℕ → Type 0
IsGenAnswer n status text =
    CountsRun n (generated n) status text ⊎ TellsStuck (generated n) status text

-- the statuses with which they are answered
abbrev pub IsGenStatus : ℕ → Type 0
IsGenStatus status = (status ≤ 2) ⊎ (status ≡ 8)
