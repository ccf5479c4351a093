use Rattle.vyrd_mover.proofs.Prelude.{arith, err_from_is_err_and}
use Rattle.vyrd_mover.proofs.FrontLaws.{goes_nowhere, event_goes_on, event_refused}
use Rattle.vyrd_mover.proofs.lines.take_front.Goals as goal

pub loop-number-init : goal.loop-number-init
loop-number-init c = λ r have. goes_nowhere c.args.events.now r c.args.first c.args.text.now have

pub take_event-requires-clause-some : goal.take_event-requires-clause-some
take_event-requires-clause-some c =
    let to = c.loop-number.invariant c.requires.recorded c.requires.have in
    record { recorded = to.recorded; have = to.have }

pub returns-in_err-take_event-clause-err : goal.returns-in_err-take_event-clause-err
returns-in_err-take_event-clause-err c = λ r have.
    let to = c.loop-number.invariant r have in
    let p = err_from_is_err_and c.from_residual.result c.from_residual.ensures.1 in
    rw p.1 (rw p.2 (event_refused to (omega arith) c.subject.result c.len.result c.subject.ensures
    c.len.ensures c.in-Some.event c.in-Some.after.now c.in-Some.ensures
    c.in_err-take_event.field-0.0 (c.in_err-take_event.ensures.err to.recorded to.have)))

pub loop-number-preserved : goal.loop-number-preserved
loop-number-preserved c = λ r have.
    let to = c.loop-number.invariant r have in
    event_goes_on to (omega arith) c.subject.result c.len.result c.subject.ensures c.len.ensures
    c.in-Some.event c.in-Some.after.now c.in-Some.ensures c.take_event.new.self
    (c.in_ok-take_event.ensures.ok to.recorded to.have)
