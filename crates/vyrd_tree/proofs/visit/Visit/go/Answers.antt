use Rattle.std.proofs.Common.{◌-◌, refl}
use Rattle.vyrd_tree.proofs.Steps.Walk.{comes_in}
use Rattle.vyrd_tree.proofs.visit.Visit.go.Goals as goal

pub returns-in-Some-clause-rest : goal.returns-in-Some-clause-rest
returns-in-Some-clause-rest c = λ task.
    let v = c.args.self.now in
    comes_in c.args.header.now task v.errand v.left c.args.number
    (record v { left = v.left - 1; node = c.in-Some.node })
    refl refl c.in-Some.ensures.0 c.in-Some.ensures.1 c.if-self-eq0.false
