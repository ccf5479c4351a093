-- What follows a run to judge it, and what it has taken in of the run so far.
use Rattle.std.specs.Prelude.{◌≡◌, [], ℕ, List, length}
use Rattle.vyrd_base.specs.declared.history.Stamped.{Stamped}
use Rattle.vyrd_base.specs.Histories.{log_of}
use Rattle.vyrd_judge.specs.Following.{JudgeView, HasFollowed}

-- a judge, and how many events it was shown
pub record RunJudgeView : Type 0 where
  pub judge : JudgeView
  pub count : ℕ

-- the judge was shown these events, in their order, and has followed their log
pub record HasJudged (j : RunJudgeView) (history : List Stamped) : Type 0 where
  pub followed : HasFollowed j.judge [] (log_of history)
  pub counted : j.count ≡ length history
