use Rattle.vyrd_own_spec.proofs.SmallLaws.{small_written}
use Rattle.vyrd_own_spec.proofs.laws.lines_spell_few.Goals as goal

pub returns : goal.returns
returns c = small_written
