use Rattle.vyrd_batch.proofs.CostLaws.{none_spent}
use Rattle.vyrd_batch.proofs.rounds.BatchJudge.new.Goals as goal

pub returns-clause-spent : goal.returns-clause-spent
returns-clause-spent c = none_spent
