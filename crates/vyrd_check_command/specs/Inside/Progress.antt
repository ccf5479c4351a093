-- How far the checking of an input has come.
use Rattle.std.specs.Prelude.{◌≡◌, ◌⊎◌, ℕ, ◌+◌, ◌≤◌, false, List, length, Some, None}
use Rattle.vyrd_base.specs.declared.verdict.Verdict.{Verdict}
use Rattle.vyrd_base.specs.Devices.{SourceKnown, IsAtEnd}
use Rattle.vyrd_base.specs.LogVerdicts.{log_verdict, log_verdict_so_far}
use Rattle.vyrd_log_check.specs.Checking.{LogCheckerState, HasChecked}
use Rattle.vyrd_log_check.specs.Costs.{bytes_cost}
use Rattle.vyrd_log_check.specs.Owed.{checker_debt}
use Rattle.vyrd_check_command.specs.Inputs.{IsTaken}

-- What the source gave has been fed to the checker, it has no verdict yet, the source hasn't said
-- its end, and each round took a byte.
pub record IsChecking (max : ℕ) (before now : SourceKnown) (checker : LogCheckerState)
    (rounds : ℕ) : Type 0 where
  pub taken : List ℕ
  pub told : IsTaken before.rest taken now.rest
  pub unended : now.ended ≡ false
  pub checked : HasChecked checker taken
  pub limit : checker.max_lines ≡ max
  pub nothing : log_verdict_so_far max taken ≡ None
  pub rounds_taken : rounds ≤ length taken

-- The same, and the judge's steps from `first` on to `last`, with what the checker owes, are at
-- most what the bytes cost that were taken.
pub record IsCounting (max : ℕ) (before now : SourceKnown) (checker : LogCheckerState)
    (rounds first last : ℕ) : Type 0 where
  pub checking : IsChecking max before now checker rounds
  pub paid : last + checker_debt checker checking.taken ≤ first + bytes_cost max checking.taken

-- A verdict was reached: about all bytes, whose end the source has said, or already about those
-- that were taken.
pub record IsReached (max : ℕ) (before after : SourceKnown) (verdict : Verdict) : Type 0 where
  pub taken : List ℕ
  pub told : IsTaken before.rest taken after.rest
  pub reached : (IsAtEnd after × (verdict ≡ log_verdict max taken))
      ⊎ (log_verdict_so_far max taken ≡ Some verdict)
