use Rattle.vyrd_mover.proofs.TextLaws.{reading_sound}
use Rattle.vyrd_mover.proofs.laws.read_text_is_a_history.Goals as goal

pub returns-clause-text : goal.returns-clause-text
returns-clause-text c = λ bytes r e. (reading_sound bytes r e).text

pub returns-clause-limits : goal.returns-clause-limits
returns-clause-limits c = λ bytes r e. (reading_sound bytes r e).limits
