use Rattle.vyrd_batch.proofs.SettledLaws.{batch_refused}
use Rattle.vyrd_batch.proofs.laws.long_inputs_are_refused.Goals as goal

pub returns : goal.returns
returns c = batch_refused
