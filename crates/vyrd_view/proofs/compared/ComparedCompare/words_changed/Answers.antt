use Rattle.std.proofs.Common.{arith}
use Rattle.vyrd_view.proofs.PriceLaws.{parts_price}
use Rattle.vyrd_view.proofs.compared.ComparedCompare.words_changed.Goals as goal

pub returns-clause-steps : goal.returns-clause-steps
returns-clause-steps = grind (arith, parts_price)
