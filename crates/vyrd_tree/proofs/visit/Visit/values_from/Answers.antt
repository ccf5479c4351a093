use Rattle.std.proofs.Common.{◌≡◌, length, arith, rules}
use Rattle.vyrd_tree.proofs.Steps.Loads.{value_comes, values_came}
use Rattle.vyrd_tree.proofs.visit.Visit.values_from.Goals as goal

pub returns-in-Some-clause-rest : goal.returns-in-Some-clause-rest
returns-in-Some-clause-rest c = λ h task.
    let v = c.args.self.now in
    let len : length v.entries.slots ≡ 4 = search rules in
    value_comes h task v c.in-Some.slot c.args.place c.args.count c.in-Some.ensures.0
    c.in-Some.ensures.1 (omega (arith, len, c.requires.count))

pub returns-in-None-clause-rest : goal.returns-in-None-clause-rest
returns-in-None-clause-rest = grind (arith, values_came)
