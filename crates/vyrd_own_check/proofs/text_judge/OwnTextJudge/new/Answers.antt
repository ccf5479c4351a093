use Rattle.vyrd_own_log.specs.ReaderView.{state_in}
use Rattle.vyrd_own_check.proofs.PieceLaws.{undecided_first}
use Rattle.vyrd_own_check.proofs.text_judge.OwnTextJudge.new.Goals as goal

pub returns-clause-undecided : goal.returns-clause-undecided
returns-clause-undecided c = undecided_first (state_in c.new.result) c.new-2.result
    c.new.ensures.read c.new-2.ensures
