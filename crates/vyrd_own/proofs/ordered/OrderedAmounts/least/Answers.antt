use Rattle.vyrd_own.proofs.Prelude.{ap, ◌∙◌, least_from}
use Rattle.vyrd_own.proofs.OrderLaws.{least_found, least_none}
use Rattle.vyrd_own.proofs.ordered.OrderedAmounts.least.Goals as goal

pub returns-in-Some : goal.returns-in-Some
returns-in-Some c =
    least_found c.args.key c.self.inside.pairs.entries c.range.result c.next.new.self
    c.in-Some.found.now c.in-Some.field-0-1.now
    (c.range.ensures.between tt) c.in-Some.ensures.steps
    ∙ ap (least_from c.args.key) c.self.view_is

pub returns-in-None : goal.returns-in-None
returns-in-None c =
    least_none c.args.key c.self.inside.pairs.entries c.range.result (c.range.ensures.between tt)
    c.in-None.ensures.steps.0
    ∙ ap (least_from c.args.key) c.self.view_is
