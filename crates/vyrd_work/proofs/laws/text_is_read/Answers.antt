use Rattle.vyrd_work.proofs.TextLaws.{work_reading-work_text}
use Rattle.vyrd_work.proofs.laws.text_is_read.Goals as goal

pub returns : goal.returns
returns c = λ w keeps. work_reading-work_text w keeps
