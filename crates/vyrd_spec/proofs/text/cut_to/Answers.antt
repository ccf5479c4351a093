use Rattle.vyrd_spec.proofs.Prelude.{arith, one-le-pow}
use Rattle.vyrd_spec.proofs.text.cut_to.Goals as goal

pub nonzero_rem-result : goal.nonzero_rem-result
nonzero_rem-result c = omega (arith, c.power.ensures, one-le-pow c.args.n 256 (omega arith))
