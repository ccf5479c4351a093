use Rattle.vyrd_table.proofs.Prelude.{refl, first_place}
use Rattle.vyrd_table.proofs.places.Places.first_of.Goals as goal

pub returns : goal.returns
unfolding first_place
returns g c = refl
