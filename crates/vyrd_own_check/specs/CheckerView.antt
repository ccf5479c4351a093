-- What the fields of a checker stand for.
use Rattle.vyrd_own_check.specs.declared.checker.OwnChecker.{OwnChecker}
use Rattle.vyrd_own_check.specs.Checking.{CheckerState}
use Rattle.vyrd_own_check.specs.KeptView.{kept_in}

abbrev pub checker_in : OwnChecker → CheckerState
checker_in c = record { kept = kept_in c.text; so_far = c.so_far; has_failed = c.has_failed }
