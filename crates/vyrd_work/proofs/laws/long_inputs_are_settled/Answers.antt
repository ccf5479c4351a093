use Rattle.vyrd_work.proofs.SettledLaws.{reading_settled}
use Rattle.vyrd_work.proofs.laws.long_inputs_are_settled.Goals as goal

pub returns : goal.returns
returns c = λ bytes more enough. reading_settled bytes more enough
