-- What a checker owes for the bytes that it has followed: the part of their cost that isn't paid
-- yet.
use Rattle.std.specs.Prelude.{ℕ, List, Option, Some, None}
use Rattle.vyrd_check.specs.Checking as first_checking
use Rattle.vyrd_check.specs.Owed as first_owed
use Rattle.vyrd_own_check.specs.declared.checker.OwnChecker.{OwnChecker}
use Rattle.vyrd_own_check.specs.CheckerView.{checker_in}
use Rattle.vyrd_own_check.specs.Owed as own_owed
use Rattle.vyrd_log_check.specs.Checking.{LogCheckerState}

-- what is owed by the checker that is fed
abbrev pub debt_by : first_checking.CheckerState → Option OwnChecker → List ℕ → ℕ
debt_by first None bytes = first_owed.checker_debt first bytes
debt_by first (Some own) bytes = own_owed.checker_debt (checker_in own) bytes

-- what is owed by a checker that has followed these bytes
abbrev pub checker_debt : LogCheckerState → List ℕ → ℕ
checker_debt c bytes = debt_by c.first c.own bytes
