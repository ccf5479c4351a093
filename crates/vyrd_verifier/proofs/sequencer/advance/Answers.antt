use Rattle.std.proofs.Common.{sym}
use Rattle.vyrd_verifier.proofs.TakenLaws.{taking_after}
use Rattle.vyrd_verifier.proofs.sequencer.advance.Goals as goal

pub returns-clause-followed : goal.returns-clause-followed
returns-clause-followed g c =
    let e = c.in-Some.ensures in
    λ taken. taking_after g.S.EventSink.has_taken c.args.sink.now c.take.new.self c.args.reorder.now
    c.next_in_order.new.self taken
    c.in-Some.event (sym e.item) e.next e.rest c.in_ok-take.ensures.taken
