use Rattle.std.proofs.Common.{arith}
use Rattle.vyrd_batch.proofs.JudgedFacts.{flat_front}
use Rattle.vyrd_batch.proofs.judging.joined.Goals as goal

pub returns-in_err-extend_from_slice-clause-steps :
    goal.returns-in_err-extend_from_slice-clause-steps
returns-in_err-extend_from_slice-clause-steps = grind (arith, flat_front)
