use Rattle.vyrd_multiset.specs.Rests.{wanted, found_for}
use Rattle.vyrd_multiset.proofs.Steps.{find_next}
use Rattle.vyrd_multiset.proofs.task.Task.after_finding.Goals as goal

pub returns-else-cursor-eq0 : goal.returns-else-cursor-eq0
returns-else-cursor-eq0 c =
    find_next c.args.header.now c.args.self.variant (wanted c.args.self c.args.want)
    (found_for c.args.header.now c.args.self c.args.want) c.args.place c.in-Load.cursor
    c.next.result.after c.next.result.slot c.args.answer c.in-Load.is c.if-answer-eq-FREE.false
    c.if-cursor-eq0.false c.next.ensures.after c.next.ensures.slot
