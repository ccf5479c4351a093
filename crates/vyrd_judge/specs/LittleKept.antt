-- How much a judge keeps at most, by the executions that are open at the end of its log.
use Rattle.std.specs.Prelude.{◌≡◌, ◌≤◌, ◌*◌, List, [], length}
use Rattle.vyrd_base.specs.declared.log.Entry.{Entry}
use Rattle.vyrd_base.specs.Layout.{plain_words}
use Rattle.vyrd_base.specs.Places.{newest_first}
use Rattle.vyrd_base.specs.Rules.{rules_by}
use Rattle.vyrd_spec.specs.Shown.{most_shown}
use Rattle.vyrd_words.specs.Costs.{all_kept_back}
use Rattle.vyrd_judge.specs.Answers.{answers_left}
use Rattle.vyrd_judge.specs.Costs.{callers_of}
use Rattle.vyrd_judge.specs.Following.{JudgeView}
use Rattle.vyrd_judge.specs.Keeping.{from_open_commit, effects_left, writes_kept, blocks_keep}

-- What a judge that has followed a log keeps at most: of entries, those from the first commit on
-- whose execution hasn't returned; of writes, those that take effect behind the commit before that
-- one, and those of open blocks; of answers, two for each that an observer has which is open before
-- that commit; the header's words; and of keys, as many as these can show, once as the
-- specification's state has them and once more for the comparison.
pub record KeepsLittle (j : JudgeView) (log : List Entry) : Type 0 where
  pub entries : length j.kept.waiting ≤ from_open_commit log
  pub writes : writes_kept j.kept.views ≤ effects_left [] log
  pub blocks : blocks_keep j.kept.shadow ≤ all_kept_back (callers_of j.kept) (newest_first log)
  pub answers : j.kept.answers ≤ 2 * answers_left (callers_of j.kept) log
  pub words : length j.kept.shadow.words ≡ plain_words (rules_by j.kept.charter).header
  pub keys : length ((rules_by j.kept.charter).shown j.kept.state) ≤ most_shown j.kept.charter
  pub compared : length j.kept.views.specified ≤ most_shown j.kept.charter
