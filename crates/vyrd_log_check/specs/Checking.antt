-- What a checker keeps, and the bytes that it stands for.
use Rattle.std.specs.Prelude.{◌≡◌, ℕ, ◌<◌, Bool, true, List, Option, Some, None, IfSome}
use Rattle.vyrd_base.specs.declared.verdict.Verdict.{Verdict}
use Rattle.vyrd_base.specs.LogVerdicts.{is_own_text}
use Rattle.vyrd_base.specs.Limits.{IsLimit}
use Rattle.vyrd_check.specs.Checking as first_checking
use Rattle.vyrd_own_check.specs.declared.checker.OwnChecker.{OwnChecker}
use Rattle.vyrd_own_check.specs.Checking as own_checking
use Rattle.vyrd_own_check.specs.CheckerView.{checker_in}
use Rattle.vyrd_log_check.specs.Beginnings.{Matches}

-- The limit of lines, how many bytes of the beginning have come, the checkers of both kinds of log,
-- the verdict that stands, and whether memory was refused.
pub record LogCheckerState : Type 0 where
  pub max_lines : ℕ
  pub matched : Option ℕ
  pub first : first_checking.CheckerState
  pub own : Option OwnChecker
  pub so_far : Option Verdict
  pub has_failed : Bool

-- the verdict that stands by the checker that is fed
abbrev pub so_far_by : first_checking.CheckerState → Option OwnChecker → Option Verdict
so_far_by first None = first.so_far
so_far_by first (Some own) = (checker_in own).so_far

-- the checker that is fed has followed the bytes, and is the one of their kind
abbrev pub FollowsBy : Option ℕ → first_checking.CheckerState → List ℕ
    → Option OwnChecker → Type 0
FollowsBy matched first bytes None = first_checking.HasChecked first bytes × Matches matched bytes
FollowsBy matched first bytes (Some own) =
    own_checking.HasChecked (checker_in own) bytes × (is_own_text bytes ≡ true)

-- The checker has followed these bytes.
pub record HasChecked (c : LogCheckerState) (bytes : List ℕ) : Type 0 where
  pub follows : FollowsBy c.matched c.first bytes c.own

-- what holds of every checker
pub record IsSound (c : LogCheckerState) : Type 0 where
  pub limit : IsLimit c.max_lines
  pub first : c.first.kept.reader.max_lines ≡ c.max_lines
  pub own : IfSome c.own (λ o. own_checking.limit_of (checker_in o).kept ≡ c.max_lines)
  pub matched : IfSome c.matched (λ n. n < 11)
