use Rattle.std.proofs.Common.{arith}
use Rattle.vyrd_spec.proofs.AmountSteps.{one_more_at_most, one_back, amount_given}
use Rattle.vyrd_spec.proofs.multiset.add_both.Goals as goal

pub add-requires-2 : goal.add-requires-2
add-requires-2 = grind (arith, one_more_at_most)

pub take_one-requires : goal.take_one-requires
take_one-requires = grind (arith, amount_given)

pub returns-in-Err-clause-err : goal.returns-in-Err-clause-err
returns-in-Err-clause-err = grind (arith, one_back)
