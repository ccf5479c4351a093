use Rattle.vyrd_batch.proofs.TextLaws.{text_is_batch}
use Rattle.vyrd_batch.proofs.laws.text_is_read.Goals as goal

pub returns : goal.returns
returns c = text_is_batch
