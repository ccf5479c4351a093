use Rattle.vyrd_own_check.proofs.Prelude.{get_or, ap, ◌∙◌, number_from}
use Rattle.vyrd_own_check.proofs.NumberLaws.{number_there, number_past}
use Rattle.vyrd_own_check.proofs.numbers.LineNumbers.number_or.Goals as goal

pub returns-then-place-self : goal.returns-then-place-self
returns-then-place-self c =
    c.number_at.ensures ∙ ap (λ rs. number_from 0 rs c.args.place) c.deref.ensures.value
    ∙ number_there c.self.inside.runs.items c.self.inside.count c.args.place c.args.other
    c.if-place-self.true
    ∙ ap (λ xs. get_or xs c.args.place c.args.other) c.self.view_is

pub returns-else-place-self : goal.returns-else-place-self
returns-else-place-self c =
    number_past c.self.inside.runs.items c.self.inside.count c.args.place c.args.other
    c.if-place-self.false
    ∙ ap (λ xs. get_or xs c.args.place c.args.other) c.self.view_is
