use Rattle.std.proofs.Common.{arith}
use Rattle.vyrd_batch.proofs.CostLaws.{no_end, end_there}
use Rattle.vyrd_batch.proofs.reader.next_line.Goals as goal

pub returns-in_default-clause-steps : goal.returns-in_default-clause-steps
returns-in_default-clause-steps g c = search (no_end, arith)

pub returns-clause-steps : goal.returns-clause-steps
returns-clause-steps = grind (arith, end_there)
