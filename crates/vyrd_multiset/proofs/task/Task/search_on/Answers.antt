use Rattle.vyrd_multiset.specs.Rests.{ended_for}
use Rattle.vyrd_multiset.proofs.Steps.{search_next}
use Rattle.vyrd_multiset.proofs.task.Task.search_on.Goals as goal

pub returns-else-cursor-eq0 : goal.returns-else-cursor-eq0
returns-else-cursor-eq0 c =
    search_next c.args.cursor c.next.result.after c.next.result.slot c.args.self.x
    (ended_for c.args.header.now c.args.self c.args.query)
    c.if-cursor-eq0.false c.next.ensures.after c.next.ensures.slot
