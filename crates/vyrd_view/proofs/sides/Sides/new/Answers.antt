use Rattle.vyrd_view.proofs.Prelude.{refl, Sides}
use Rattle.vyrd_view.proofs.SidedLaws.{is_settled, fresh_settled, fresh_shown, fresh_specified}
use Rattle.vyrd_view.proofs.sides.Sides.new.Goals as goal

pub returns-clause-settled : goal.returns-clause-settled
returns-clause-settled c =
    let s : Sides = record { table = c.in_ok-new.field-0; apart = 0 } in
    is_settled s (fresh_settled s c.in_ok-new.ensures.entries refl)

pub returns-clause-shown : goal.returns-clause-shown
returns-clause-shown c = fresh_shown (record { table = c.in_ok-new.field-0; apart = 0 })
    c.in_ok-new.ensures.entries

pub returns-clause-specified : goal.returns-clause-specified
returns-clause-specified c = fresh_specified (record { table = c.in_ok-new.field-0; apart = 0 })
    c.in_ok-new.ensures.entries
