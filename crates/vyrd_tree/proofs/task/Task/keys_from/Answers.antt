use Rattle.std.proofs.Common.{◌∙◌}
use Rattle.vyrd_tree.proofs.Steps.Loads.{keys_came}
use Rattle.vyrd_tree.proofs.task.Task.keys_from.Goals as goal

pub returns-in-None-clause-rest : goal.returns-in-None-clause-rest
returns-in-None-clause-rest c = λ h. c.keys_loaded.ensures.rest h
    ∙ keys_came h c.args.self c.args.visit.now c.args.place c.args.count c.requires.place
    c.in-None.ensures
