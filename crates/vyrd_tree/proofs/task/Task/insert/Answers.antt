use Rattle.vyrd_tree.proofs.Prelude.{◌≡◌, ◌∙◌, ap, sym, take, None, place_of, arrived_at}
use Rattle.vyrd_tree.proofs.Steps.Entry.{inserted_new}
use Rattle.vyrd_tree.proofs.task.Task.insert.Goals as goal

pub returns-in-None : goal.returns-in-None
returns-in-None c = λ h.
    let none : place_of c.args.self.key (take c.args.count c.args.visit.entries.slots) ≡ None =
    ap (λ key. place_of key (take c.args.count c.args.visit.entries.slots)) (sym c.from.ensures)
    ∙ c.in-None.ensures in
    c.add.ensures h
    ∙ inserted_new h c.args.self c.args.visit.errand
    (arrived_at c.args.visit (take c.args.count c.args.visit.entries.slots))
    (place_of c.args.self.key (take c.args.count c.args.visit.entries.slots)) c.from-in-None.result
    c.from-in-None-2.result
    c.requires.operation none c.from-in-None.ensures c.from-in-None-2.ensures
