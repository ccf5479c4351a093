use Rattle.std.proofs.Common.{arith}
use Rattle.vyrd_witness.proofs.StartWords.{length_start}
use Rattle.vyrd_witness.proofs.races.effects_from.Goals as goal

pub pass-requires-clause-count : goal.pass-requires-clause-count
pass-requires-clause-count = grind (arith, length_start)
