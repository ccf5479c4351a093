use Rattle.vyrd_witness.proofs.PassedLaws.{passed_shown}
use Rattle.vyrd_witness.proofs.laws.passed_words_have_items.Goals as goal

pub returns : goal.returns
returns c = passed_shown
