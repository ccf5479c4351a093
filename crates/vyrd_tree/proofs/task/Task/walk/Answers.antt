use Rattle.std.proofs.Common.{◌∙◌, ap, sym}
use Rattle.vyrd_tree.proofs.Steps.Walk.{comes_in, is_lost}
use Rattle.vyrd_tree.proofs.task.Task.walk.Goals as goal

pub returns-in-Some : goal.returns-in-Some
returns-in-Some c = comes_in c.args.header.now c.args.self c.args.errand c.args.left c.args.number
    c.new.result c.new.ensures.errand c.new.ensures.left
    (ap (λ n. n.number) c.new.ensures.node ∙ c.in-Some.ensures.0) c.in-Some.ensures.1
    c.if-left-eq0.false

pub returns-in-None : goal.returns-in-None
returns-in-None c = c.lost-in-None.ensures c.args.header.now
    ∙ sym (is_lost c.args.header.now c.args.self c.args.errand c.args.left c.args.number
    c.in-None.ensures)
