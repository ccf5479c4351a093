use Rattle.vyrd_view.proofs.SummedLaws.{sums_settled, fresh_sum}
use Rattle.vyrd_view.proofs.sums.Sums.new.Goals as goal

pub returns-clause-settled : goal.returns-clause-settled
returns-clause-settled c =
    sums_settled (record { sides = c.in_ok-new.field-0; carries = c.in_ok-new-2.field-0 }) (record {
      sides = c.in_ok-new.ensures.settled;
      carries = c.in_ok-new-2.ensures.settled;
      alone = c.in_ok-new-2.ensures.specified;
    })

pub returns-clause-shown : goal.returns-clause-shown
returns-clause-shown c = fresh_sum
    (record { sides = c.in_ok-new.field-0; carries = c.in_ok-new-2.field-0 })
    c.in_ok-new.ensures.shown c.in_ok-new-2.ensures.shown
