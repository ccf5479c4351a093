use Rattle.vyrd_base.proofs.Prelude.{ap, ◌∙◌, unwrap_or, amount_of}
use Rattle.vyrd_base.proofs.AmountMaps.{lookup-find}
use Rattle.vyrd_base.proofs.amount_map.AmountMap.amount.Goals as goal

pub returns-clause-amount : goal.returns-clause-amount
returns-clause-amount c =
    c.unwrap_or.ensures ∙ ap (λ o. unwrap_or o 0) (c.copied.ensures ∙ c.get.ensures.value
    ∙ lookup-find c.args.key c.self.inside.pairs.entries)
    ∙ ap (λ es. amount_of es c.args.key) c.self.view_is
