-- How much the judge of a checker keeps.
use Rattle.vyrd_log_check.proofs.Prelude.{◌≡◌, ℕ, List, Some, None, subst, OwnChecker, checker_in}
use Rattle.vyrd_log_check.proofs.Prelude.{LogCheckerState, HasChecked, FollowsBy}
use Rattle.vyrd_judge.specs.Following.{JudgeView}
use Rattle.vyrd_judge.specs.LittleKept.{KeepsLittle}
use Rattle.vyrd_judge.proofs.LeftLaws.{keeps_little}
use Rattle.vyrd_check.specs.Checking as first_checking
use Rattle.vyrd_check.specs.LogReadings as first_readings
use Rattle.vyrd_own_check.specs.Checking as own_checking
use Rattle.vyrd_own_check.specs.LogReadings as own_readings

pub first_keeps : (c : LogCheckerState) (bytes : List ℕ) (j : JudgeView) → HasChecked c bytes
    → c.own ≡ None → c.first.so_far ≡ None → c.first.kept.judge ≡ Some j
    → KeepsLittle j (first_readings.read_so_far c.first.kept.reader.max_lines bytes).entries
first_keeps c bytes j checked none nothing is =
    let by : FollowsBy c.matched c.first bytes None =
    subst (FollowsBy c.matched c.first bytes) none checked.follows in
    let undecided : first_checking.FollowsBy c.first.kept bytes None =
    subst (first_checking.FollowsBy c.first.kept bytes) nothing by.0.follows in
    let read = first_readings.read_so_far c.first.kept.reader.max_lines bytes in
    let at : first_checking.IsJudging (Some j) read =
    subst (λ judge. first_checking.IsJudging judge read) is undecided.judging in
    keeps_little j read.starting read.entries at.followed at.so_far

pub own_keeps : (c : LogCheckerState) (bytes : List ℕ) (o : OwnChecker) (j : JudgeView)
    → HasChecked c bytes → c.own ≡ Some o → (checker_in o).so_far ≡ None
    → (checker_in o).kept.judge ≡ Some j
    → KeepsLittle j
    (own_readings.read_so_far (own_checking.limit_of (checker_in o).kept) bytes).entries
own_keeps c bytes o j checked some nothing is =
    let by : FollowsBy c.matched c.first bytes (Some o) =
    subst (FollowsBy c.matched c.first bytes) some checked.follows in
    let kept = (checker_in o).kept in
    let undecided : own_checking.FollowsBy kept bytes None =
    subst (own_checking.FollowsBy kept bytes) nothing by.0.follows in
    let read = own_readings.read_so_far (own_checking.limit_of kept) bytes in
    let at : own_checking.IsJudging (Some j) read =
    subst (λ judge. own_checking.IsJudging judge read) is undecided.judging in
    keeps_little j read.starting read.entries at.followed at.so_far
