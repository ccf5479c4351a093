use Rattle.std.proofs.Common.{arith, append_assoc}
use Rattle.vyrd_work.proofs.GeneratedLaws.{ops_step}
use Rattle.vyrd_work.proofs.generator.draw_ops.Goals as goal

pub loop-i-preserved : goal.loop-i-preserved
loop-i-preserved = grind (arith, append_assoc, ops_step)
