use Rattle.vyrd_table.proofs.PriceLaws.{digits_fit}
use Rattle.vyrd_table.proofs.laws.digits_are_the_logarithm.Goals as goal

pub returns-clause-below : goal.returns-clause-below
returns-clause-below c n = (digits_fit n).0

pub returns-clause-most : goal.returns-clause-most
returns-clause-most c n = (digits_fit n).1
