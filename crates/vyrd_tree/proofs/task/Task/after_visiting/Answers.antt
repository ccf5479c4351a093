use Rattle.vyrd_tree.proofs.Prelude.{ap, sym, after_answer, visiting_rest}
use Rattle.vyrd_tree.proofs.task.Task.after_visiting.Goals as goal

pub returns-in-Lock-clause-rest : goal.returns-in-Lock-clause-rest
returns-in-Lock-clause-rest c =
    ap (λ p. after_answer (visiting_rest c.args.header.now c.args.self c.args.visit.now p)
    c.args.answer) (sym c.in-Lock.is)
