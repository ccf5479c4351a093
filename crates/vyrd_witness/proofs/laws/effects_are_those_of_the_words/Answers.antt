use Rattle.vyrd_witness.proofs.EffectLaws.{plain_effects}
use Rattle.vyrd_witness.proofs.laws.effects_are_those_of_the_words.Goals as goal

pub returns : goal.returns
returns c = plain_effects
