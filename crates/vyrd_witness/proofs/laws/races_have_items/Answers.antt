use Rattle.vyrd_witness.proofs.PassedLaws.{race_shown}
use Rattle.vyrd_witness.proofs.laws.races_have_items.Goals as goal

pub returns : goal.returns
returns c = race_shown
