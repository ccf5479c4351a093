use Rattle.vyrd_work.proofs.TextLaws.{reading_sound}
use Rattle.vyrd_work.proofs.laws.read_text_is_a_workload.Goals as goal

pub returns-clause-text : goal.returns-clause-text
returns-clause-text c = λ bytes w e. (reading_sound bytes w e).text

pub returns-clause-limits : goal.returns-clause-limits
returns-clause-limits c = λ bytes w e. (reading_sound bytes w e).limits
