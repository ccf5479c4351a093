use Rattle.vyrd_own_log.proofs.GrownLaws.{reading_formed}
use Rattle.vyrd_own_log.proofs.laws.readings_are_formed.Goals as goal

pub returns : goal.returns
returns c = λ max bytes low high. reading_formed max bytes low high
