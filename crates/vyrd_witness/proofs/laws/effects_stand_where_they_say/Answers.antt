use Rattle.vyrd_witness.proofs.WrittenLaws.{by_written}
use Rattle.vyrd_witness.proofs.laws.effects_stand_where_they_say.Goals as goal

pub returns : goal.returns
returns c = by_written
