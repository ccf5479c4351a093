use Rattle.vyrd_witness.proofs.RaceLaws.{held_shown}
use Rattle.vyrd_witness.proofs.laws.held_words_have_items.Goals as goal

pub returns : goal.returns
returns c = held_shown
