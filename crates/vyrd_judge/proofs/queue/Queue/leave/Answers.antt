use Rattle.std.proofs.Common.{refl, sym, ◌∙◌}
use Rattle.vyrd_judge.proofs.QueueLaws.{queue_left}
use Rattle.vyrd_judge.proofs.QueueTells.{first_awaits}
use Rattle.vyrd_judge.proofs.queue.Queue.leave.Goals as goal

pub returns-in_err-x-clause-left : goal.returns-in_err-x-clause-left
returns-in_err-x-clause-left g c = λ x earlier can q. queue_left x _ refl can q

pub returns-then-awaits_return-clause-left : goal.returns-then-awaits_return-clause-left
returns-then-awaits_return-clause-left g c = λ x earlier can q. queue_left x _ refl can q

pub returns-clause-left : goal.returns-clause-left
returns-clause-left g c = λ x earlier can q. queue_left x _ refl can q

pub returns-then-awaits_return-clause-awaits : goal.returns-then-awaits_return-clause-awaits
returns-then-awaits_return-clause-awaits g c = λ none.
    let rest = c.first.ensures.some c.in_ok-x.x c.in_ok-x.was in
    first_awaits c.args.self.now.waiting.items c.in_ok-x.x rest.0 rest.1
    (sym c.awaits_return.ensures ∙ c.if-awaits_return.true)
