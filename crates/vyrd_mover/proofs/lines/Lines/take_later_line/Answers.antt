use Rattle.vyrd_mover.proofs.LinesLaws.{at_later, later_taken, later_refused}
use Rattle.vyrd_mover.proofs.lines.Lines.take_later_line.Goals as goal

pub next_line-requires-clause-some : goal.next_line-requires-clause-some
next_line-requires-clause-some c =
    let f = at_later c.args.self.now c.in-Some.events c.requires.somewhere.bytes c.requires.fine
    c.in-Some.is c.requires.somewhere.at in
    record { recorded = f.recorded; have = f.have }

pub returns-in-Ok : goal.returns-in-Ok
returns-in-Ok c = λ bytes at some.
    let l = c.args.self.now in
    let f = at_later l c.in-Some.events bytes c.requires.fine c.in-Some.is at in
    rw c.requires.fine
    (later_taken l.line c.in-Some.events c.next_line.new.events l.ended c.in-Ok.ended
    c.args.line.now bytes f (c.in-Ok.ensures.ok f.recorded f.have))

pub returns-in-Err : goal.returns-in-Err
returns-in-Err c = λ bytes at some rest.
    let l = c.args.self.now in
    let f = at_later l c.in-Some.events bytes c.requires.fine c.in-Some.is at in
    later_refused l.line c.in-Some.events l.ended c.in-Err.fault c.args.line.now bytes rest f
    (c.in-Err.ensures.err f.recorded f.have rest)
