use Rattle.vyrd_view.proofs.SidedLaws.{settled_of, none_differs, first_differs}
use Rattle.vyrd_view.proofs.sides.Sides.first_difference.Goals as goal

pub returns-then-self-eq0 : goal.returns-then-self-eq0
returns-then-self-eq0 c = none_differs c.args.self.now (settled_of c.args.self.now c.requires)
    c.if-self-eq0.true

pub returns : goal.returns
returns c = first_differs c.args.self.now (settled_of c.args.self.now c.requires)
    c.first_marked.result c.first_marked.ensures
