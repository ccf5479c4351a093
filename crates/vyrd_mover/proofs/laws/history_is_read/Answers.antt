use Rattle.vyrd_mover.proofs.TextLaws.{reading-history_text}
use Rattle.vyrd_mover.proofs.laws.history_is_read.Goals as goal

pub returns : goal.returns
returns c = reading-history_text
