use Rattle.vyrd_batch.proofs.TextLaws.{read_batch_is_text}
use Rattle.vyrd_batch.proofs.laws.read_batch_is_a_text.Goals as goal

pub returns : goal.returns
returns c = read_batch_is_text
