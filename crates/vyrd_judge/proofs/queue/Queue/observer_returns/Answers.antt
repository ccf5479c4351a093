use Rattle.vyrd_judge.proofs.QueueTells.{observer_is}
use Rattle.vyrd_judge.proofs.queue.Queue.observer_returns.Goals as goal

pub returns-in-Return : goal.returns-in-Return
returns-in-Return c = λ earlier q keeps.
    observer_is c.index-called.result.now c.in-Return.is c.index-called.ensures keeps q
