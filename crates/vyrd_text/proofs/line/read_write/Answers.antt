use Rattle.std.proofs.Common.{arith}
use Rattle.vyrd_text.proofs.PartLaws.{no_value}
use Rattle.vyrd_text.proofs.line.read_write.Goals as goal

pub returns-in_err-value : goal.returns-in_err-value
returns-in_err-value = grind (arith, no_value)
