use Rattle.vyrd_own.proofs.Prelude.{ap, sym, ◌∙◌, subst, IsAmounts, with_amount}
use Rattle.vyrd_own.proofs.Prelude.{IsAmounts-with_amount, marked}
use Rattle.vyrd_own.proofs.MarkLaws.{marked_with}
use Rattle.vyrd_own.proofs.shown.ShownAmounts.remove.Goals as goal

pub invariant_of-self : goal.invariant_of-self
invariant_of-self c =
    let s = c.self.inside.table in (
      c.remove-2.ensures ∙ ap (λ m. with_amount m c.args.key 0) c.self.invariant.0
          ∙ marked_with s c.args.key 0 c.self.invariant.1
          ∙ ap marked (sym c.remove.ensures),
      subst IsAmounts (sym c.remove.ensures)
          (IsAmounts-with_amount s c.args.key 0 c.self.invariant.1),
    )
