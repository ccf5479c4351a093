use Rattle.vyrd_tree.proofs.Prelude.{◌∙◌, refl, arith, take, arrived_at}
use Rattle.vyrd_tree.proofs.Steps.Entry.{added_child}
use Rattle.vyrd_tree.proofs.task.Task.add_child.Goals as goal

pub returns : goal.returns
returns c = λ h.
    c.add.ensures h
    ∙ added_child h c.args.self c.args.visit.errand c.args.ascent
    (arrived_at c.args.visit (take c.args.count c.args.visit.entries.slots))
    c.args.ascent.key c.to_word.result c.requires.errand
    (omega (arith, c.if-visit-from.false, c.from.ensures)) refl c.to_word.ensures
