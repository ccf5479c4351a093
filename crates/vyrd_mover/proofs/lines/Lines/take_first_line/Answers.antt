use Rattle.vyrd_mover.proofs.LinesLaws.{first_taken, first_refused}
use Rattle.vyrd_mover.proofs.lines.Lines.take_first_line.Goals as goal

pub returns-in-Ok : goal.returns-in-Ok
returns-in-Ok c = λ bytes at.
    first_taken c.args.self.now c.in-Ok.events c.args.line.now bytes c.requires.fine
    c.requires.first at c.requires.one_line c.in-Ok.ensures.ok

pub returns-in-Err : goal.returns-in-Err
returns-in-Err c = λ bytes at rest.
    first_refused c.args.self.now c.in-Err.fault c.args.line.now bytes rest c.requires.fine
    c.requires.first at c.requires.one_line c.in-Err.ensures.err
