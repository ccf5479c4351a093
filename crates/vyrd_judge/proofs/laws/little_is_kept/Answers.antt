use Rattle.vyrd_judge.proofs.LeftLaws.{keeps_little}
use Rattle.vyrd_judge.proofs.laws.little_is_kept.Goals as goal

pub returns : goal.returns
returns c = keeps_little
