use Rattle.vyrd_spec.proofs.Prelude.{arith, pow-le-pow_right}
use Rattle.vyrd_spec.proofs.text.power.Goals as goal

pub pow-requires : goal.pow-requires
pow-requires c = grind (arith, pow-le-pow_right {n = 256} (omega arith) c.requires)
