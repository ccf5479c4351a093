use Rattle.std.proofs.Common.{refl}
use Rattle.vyrd_verifier.proofs.JudgeLaws.{judged_none}
use Rattle.vyrd_verifier.proofs.run_judge.RunJudge.new.Goals as goal

pub returns-clause-judged : goal.returns-clause-judged
returns-clause-judged c = judged_none _ c.in_ok-judge.ensures.followed refl
