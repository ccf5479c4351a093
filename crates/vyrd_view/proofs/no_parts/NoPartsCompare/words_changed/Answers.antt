use Rattle.std.proofs.Common.{arith}
use Rattle.vyrd_view.proofs.PriceLaws.{same_price}
use Rattle.vyrd_view.proofs.no_parts.NoPartsCompare.words_changed.Goals as goal

pub returns-clause-steps : goal.returns-clause-steps
returns-clause-steps g c = omega (arith, c.add.ensures, same_price 1 c.args.changed.now)
