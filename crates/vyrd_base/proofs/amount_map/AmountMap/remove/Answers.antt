use Rattle.vyrd_base.proofs.Prelude.{subst, sym, ap, ◌∙◌, IsAmounts, with_amount}
use Rattle.vyrd_base.proofs.AmountLaws.{IsAmounts-with_amount}
use Rattle.vyrd_base.proofs.AmountMaps.{remove-with_amount}
use Rattle.vyrd_base.proofs.amount_map.AmountMap.remove.Goals as goal

pub invariant_of-self : goal.invariant_of-self
invariant_of-self c =
    let es = c.self.inside.pairs.entries in
    let left = c.remove.ensures.entries
    ∙ remove-with_amount es c.args.key c.self.invariant.rising in
    subst IsAmounts (sym left) (IsAmounts-with_amount es c.args.key 0 c.self.invariant)

pub returns : goal.returns
returns c =
    c.remove.ensures.entries ∙ remove-with_amount c.self.inside.pairs.entries c.args.key
    c.self.invariant.rising
    ∙ ap (λ es. with_amount es c.args.key 0) c.self.view_is
