use Rattle.vyrd_mover.proofs.Prelude.{take, length, ap, ◌∙◌, err_from_is_err_and}
use Rattle.std.proofs.Math.Seq.{take-length}
use Rattle.vyrd_text.proofs.WrittenLaws.{front_of_front}
use Rattle.vyrd_mover.proofs.WrittenLaws.{events_text}
use Rattle.vyrd_mover.proofs.writer.append_events.Goals as goal

pub returns-in_err-write_event-clause-err : goal.returns-in_err-write_event-clause-err
returns-in_err-write_event-clause-err c =
    let p = err_from_is_err_and c.from_residual.result c.from_residual.ensures.1 in
    rw p.1 (front_of_front c.args.out.now.items
    (events_text (take c.loop-event.event-index c.args.history.now))
    c.loop-event.out.items c.write_event.new.out.items c.loop-event.invariant
    (ap (take (length c.loop-event.out.items)) c.in_err-write_event.ensures.err
    ∙ take-length c.loop-event.out.items))
