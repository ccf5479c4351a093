use Rattle.vyrd_tree.proofs.Steps.Split.{next_up}
use Rattle.vyrd_tree.proofs.task.Task.after_split.Goals as goal

pub returns-in-Ascent : goal.returns-in-Ascent
returns-in-Ascent c = λ h. next_up h c.args.self c.args.errand c.in-Ascent.ascent c.args.key
    c.args.new c.in-Ascent.is c.if-ascent-lt-LAST_ROUND.true
