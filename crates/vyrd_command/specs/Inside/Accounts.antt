-- What an account of a run has taken in so far.
use Rattle.std.specs.Prelude.{◌≡◌, [], ℕ, List, ◌++◌, length, flat_map}
use Rattle.vyrd_base.specs.declared.header.Header.{Header}
use Rattle.vyrd_base.specs.declared.history.Stamped.{Stamped}
use Rattle.vyrd_base.specs.Histories.{log_of}
use Rattle.vyrd_base.specs.Rules.{rules_by}
use Rattle.vyrd_base.specs.Spelling.{ended_line, header_line, entry_line}
use Rattle.vyrd_judge.specs.Following.{JudgeView, HasFollowed}
use Rattle.vyrd_mover.specs.HistoryText.{history_header_line, event_line}
use Rattle.vyrd_command.specs.declared.show.Show.{Show}
use Rattle.vyrd_command.specs.declared.show.Show.TheVariants as shown

-- the text of a log or a history without its last line, or nothing where neither is shown
abbrev pub text_so_far : Show → Header → List Stamped → List ℕ
text_so_far shown.Verdict h history = []
text_so_far shown.Log h history =
    ended_line (header_line h.version h.subject h.size h.callers)
    ++ flat_map (λ e. ended_line (entry_line e)) (log_of history)
text_so_far shown.History h history =
    ended_line (history_header_line h.subject h.size h.callers)
    ++ flat_map (λ e. ended_line (event_line e)) history

-- what is kept of a run
pub record AccountView : Type 0 where
  pub judge : JudgeView
  pub count : ℕ
  pub show : Show
  pub text : List ℕ

-- the account has taken in these events, in their order
pub record HasTaken (a : AccountView) (history : List Stamped) : Type 0 where
  pub followed : HasFollowed a.judge [] (log_of history)
  pub counted : a.count ≡ length history
  pub text_is : a.text ≡ text_so_far a.show (rules_by a.judge.kept.charter).header history
