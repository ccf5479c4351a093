use Rattle.vyrd_table.proofs.Prelude.{arith, pow_mono}
use Rattle.vyrd_table.proofs.table.Table.new_counted.Goals as goal

pub returns-in_err-new-clause-steps : goal.returns-in_err-new-clause-steps
returns-in_err-new-clause-steps g c =
    omega (
      arith,
      c.new.ensures.steps,
      pow_mono {i = c.min-bits.result} {j = 6}
          (omega (arith, c.min-bits.ensures)),
    )

pub returns-clause-steps : goal.returns-clause-steps
returns-clause-steps g c =
    omega (
      arith,
      c.new.ensures.steps,
      pow_mono {i = c.min-bits.result} {j = 6}
          (omega (arith, c.min-bits.ensures)),
    )
