use Rattle.vyrd_check.proofs.PieceLaws.{undecided_first}
use Rattle.vyrd_check.proofs.text_judge.TextJudge.new.Goals as goal

pub returns-clause-undecided : goal.returns-clause-undecided
returns-clause-undecided c = undecided_first c.new.result c.new.ensures.read
