use Rattle.vyrd_witness.proofs.AgreeLaws.{differs}
use Rattle.vyrd_witness.proofs.laws.words_and_state_differ_at_the_fault.Goals as goal

pub returns : goal.returns
returns c = differs
