use Rattle.vyrd_tree.proofs.Prelude.{◌≡◌, ◌∙◌, length, ap, rules, BlockOpen, Mark, unlock_node}
use Rattle.vyrd_memory.specs.Scripts.{perform, returns as reply}
use Rattle.vyrd_tree.proofs.Steps.Entry.{added, overflows}
use Rattle.vyrd_tree.proofs.task.Task.add.Goals as goal

pub returns-then-count-lt-ROOM : goal.returns-then-count-lt-ROOM
returns-then-count-lt-ROOM c = λ h.
    let len : length c.args.visit.entries.slots ≡ 4 = search rules in
    ap (perform (Mark BlockOpen))
    (c.rewrite.ensures h
    (perform (Mark c.close.result) (unlock_node h c.args.visit.node.number (reply 1))))
    ∙ added h c.args.self c.args.visit c.args.count c.place_below-place.result c.args.entry.0
    c.args.entry.1 c.with-five.result c.first_four.result c.close.result
    c.if-count-lt-ROOM.true len c.place_below-place.ensures.place c.place_below-place.ensures.few
    c.with-five.ensures c.first_four.ensures c.close.ensures

pub returns : goal.returns
returns c = λ h.
    let len : length c.args.visit.entries.slots ≡ 4 = search rules in
    overflows h c.args.self c.args.visit c.args.count c.place_below-place.result c.args.entry.0
    c.args.entry.1 c.with-five.result
    c.if-count-lt-ROOM.false c.requires len c.place_below-place.ensures.place c.with-five.ensures
