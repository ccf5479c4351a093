use Rattle.vyrd_witness.proofs.AgreeLaws.{agrees}
use Rattle.vyrd_witness.proofs.laws.words_and_state_agree_at_a_good_commit.Goals as goal

pub returns : goal.returns
returns c = agrees
