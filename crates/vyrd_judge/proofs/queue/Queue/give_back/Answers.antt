use Rattle.std.proofs.Common.{arith}
use Rattle.vyrd_judge.proofs.QueueTells.{awaits_behind}
use Rattle.vyrd_judge.proofs.queue.Queue.give_back.Goals as goal

pub returns-clause-awaits : goal.returns-clause-awaits
returns-clause-awaits = grind (arith, awaits_behind)
