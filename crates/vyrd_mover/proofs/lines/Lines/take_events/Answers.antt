use Rattle.std.proofs.Common.{sym}
use Rattle.vyrd_mover.proofs.FrontLaws.{at_events, nothing_taken, events_taken, events_refused}
use Rattle.vyrd_mover.proofs.FrontLaws.{goes_shorter}
use Rattle.vyrd_mover.proofs.lines.Lines.take_events.Goals as goal

pub returns-then-is_some-clause-taken : goal.returns-then-is_some-clause-taken
returns-then-is_some-clause-taken c = λ bytes at.
    nothing_taken c.args.self.now bytes c.args.text.now at

pub returns-in_default-clause-taken : goal.returns-in_default-clause-taken
returns-in_default-clause-taken c = λ bytes at.
    nothing_taken c.args.self.now bytes c.args.text.now at

pub take_front-requires : goal.take_front-requires
take_front-requires c =
    let f = at_events c.args.self.now c.in-Some.events c.requires.bytes (sym c.if-is_some.ensures)
    c.if-self.false c.in-Some.is c.requires.at in
    record { recorded = f.recorded; have = f.have }

pub returns-in-Ok-clause-taken : goal.returns-in-Ok-clause-taken
returns-in-Ok-clause-taken c = λ bytes at.
    let l = c.args.self.now in
    let fine = sym c.if-is_some.ensures in
    let f = at_events l c.in-Some.events bytes fine c.if-self.false c.in-Some.is at in
    events_taken l c.in-Some.events c.take_front.new.events c.in-Ok.number bytes c.args.text.now
    c.in-Ok.rest.now fine c.if-self.false f (c.in-Ok.ensures.ok f.recorded f.have)

pub returns-in-Ok-clause-shorter : goal.returns-in-Ok-clause-shorter
returns-in-Ok-clause-shorter c =
    let f = at_events c.args.self.now c.in-Some.events c.requires.bytes (sym c.if-is_some.ensures)
    c.if-self.false c.in-Some.is c.requires.at in
    goes_shorter (c.in-Ok.ensures.ok f.recorded f.have)

pub returns-in-Err-clause-taken : goal.returns-in-Err-clause-taken
returns-in-Err-clause-taken c = λ bytes at.
    let l = c.args.self.now in
    let f = at_events l c.in-Some.events bytes (sym c.if-is_some.ensures) c.if-self.false
    c.in-Some.is at in
    events_refused l c.in-Some.events c.in-Err.fault bytes c.args.text.now f
    (c.in-Err.ensures.err f.recorded f.have) _ _ _
