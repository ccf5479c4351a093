use Rattle.std.proofs.Common.{arith}
use Rattle.vyrd_work.proofs.ItemLaws.{no_call}
use Rattle.vyrd_work.proofs.line.read_op.Goals as goal

pub returns-in_err-method : goal.returns-in_err-method
returns-in_err-method = grind (arith, no_call)
