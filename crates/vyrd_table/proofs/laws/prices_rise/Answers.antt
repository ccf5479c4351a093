use Rattle.std.proofs.Common.{arith}
use Rattle.vyrd_table.proofs.PriceLaws.{question_mono}
use Rattle.vyrd_table.proofs.laws.prices_rise.Goals as goal

pub returns-clause-look_up : goal.returns-clause-look_up
returns-clause-look_up c fewer keys le = omega (arith, question_mono fewer keys le)

pub returns-clause-set : goal.returns-clause-set
returns-clause-set c fewer keys le = omega (arith, question_mono fewer keys le)
