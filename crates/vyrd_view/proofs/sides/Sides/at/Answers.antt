use Rattle.vyrd_view.proofs.Prelude.{ap, sym, ◌∙◌, Both}
use Rattle.vyrd_view.proofs.SidedLaws.{shown_is, specified_is}
use Rattle.vyrd_view.proofs.sides.Sides.at.Goals as goal

pub returns-clause-shown : goal.returns-clause-shown
returns-clause-shown c = cc (c.find.ensures.value, shown_is c.args.self.now c.args.key)

pub returns-clause-specified : goal.returns-clause-specified
returns-clause-specified c = ap (λ (v : Both). v.specified) c.find.ensures.value
    ∙ sym (specified_is c.args.self.now c.args.key c.find.ensures.formed)
