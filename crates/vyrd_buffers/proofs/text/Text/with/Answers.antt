use Rattle.std.proofs.Common.{arith}
use Rattle.vyrd_buffers.proofs.Steps.{low_power, digit_fits}
use Rattle.vyrd_buffers.proofs.text.Text.with.Goals as goal

pub pow-requires : goal.pow-requires
pow-requires c = omega (arith, low_power c.args.self.read c.args.self.of c.requires c.args.self.few)

pub overflow_mul-result : goal.overflow_mul-result
overflow_mul-result = grind (arith, low_power, digit_fits)

pub overflow_add-result : goal.overflow_add-result
overflow_add-result = grind (arith, low_power, digit_fits)
