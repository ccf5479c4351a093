use Rattle.std.proofs.Common.{arith}
use Rattle.vyrd_spec.proofs.TextSteps.{sum_below}
use Rattle.vyrd_spec.proofs.text.joined.Goals as goal

pub overflow_mul-result : goal.overflow_mul-result
overflow_mul-result = grind (arith, sum_below)

pub overflow_add-result : goal.overflow_add-result
overflow_add-result = grind (arith, sum_below)
