use Rattle.vyrd_own.proofs.Prelude.{ap, ◌∙◌, greatest_to}
use Rattle.vyrd_own.proofs.OrderLaws.{greatest_found, greatest_none}
use Rattle.vyrd_own.proofs.ordered.OrderedAmounts.greatest.Goals as goal

pub returns-in-Some : goal.returns-in-Some
returns-in-Some c =
    greatest_found c.args.key c.self.inside.pairs.entries c.range.result c.next_back.new.self
    c.in-Some.found.now c.in-Some.field-0-1.now
    (c.range.ensures.between tt) c.in-Some.ensures.steps
    ∙ ap (greatest_to c.args.key) c.self.view_is

pub returns-in-None : goal.returns-in-None
returns-in-None c =
    greatest_none c.args.key c.self.inside.pairs.entries c.range.result (c.range.ensures.between tt)
    c.in-None.ensures.steps.0
    ∙ ap (greatest_to c.args.key) c.self.view_is
