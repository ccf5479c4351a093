use Rattle.vyrd_batch.proofs.SettledLaws.{batch_settled}
use Rattle.vyrd_batch.proofs.laws.long_inputs_are_settled.Goals as goal

pub returns : goal.returns
returns c = batch_settled
