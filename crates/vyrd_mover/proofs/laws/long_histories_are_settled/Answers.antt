use Rattle.vyrd_mover.proofs.SettledLaws.{reading_settled}
use Rattle.vyrd_mover.proofs.laws.long_histories_are_settled.Goals as goal

pub returns : goal.returns
returns c = reading_settled
