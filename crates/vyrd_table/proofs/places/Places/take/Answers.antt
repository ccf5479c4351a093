use Rattle.std.proofs.Common.{ℕ, ap, cond, sym, ◌∙◌, arith}
use Rattle.vyrd_table.proofs.PriceLaws.{digits_below}
use Rattle.vyrd_table.proofs.places.Places.take.Goals as goal

pub returns-clause-steps : goal.returns-clause-steps
returns-clause-steps g c =
    omega (
      arith,
      c.put_in_place.ensures.steps,
      c.tick.ensures,
      ap {B = ℕ} (λ b. cond b 0 1) (sym c.is_nothing.ensures ∙ c.if-is_nothing.false),
      digits_below _ 19 c.requires.fits,
    )
