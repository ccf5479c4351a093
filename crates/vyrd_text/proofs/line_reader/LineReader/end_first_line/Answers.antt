use Rattle.vyrd_text.proofs.Prelude.{sym, state_of}
use Rattle.vyrd_text.proofs.LineSteps.{first_good, first_bad}
use Rattle.vyrd_text.proofs.line_reader.LineReader.end_first_line.Goals as goal

pub returns-in-Ok : goal.returns-in-Ok
returns-in-Ok c =
    let fine = rw (← c.self.view_is) at c.requires.fine in
    let no_header = rw (← c.self.view_is) at c.requires.first in
    let first = c.self.invariant.first no_header in
    rw (c.next_line.ensures, c.version.ensures, ← c.self.view_is)
    (first_good (state_of c.self.inside) c.args.line.now c.requires.line fine c.self.invariant.low
    no_header first.0 first.1 first.2
    c.in-Ok.header (sym c.in-Ok.ensures))

pub returns-in-Err : goal.returns-in-Err
returns-in-Err c =
    let fine = rw (← c.self-in-Err.view_is) at c.requires.fine in
    let no_header = rw (← c.self-in-Err.view_is) at c.requires.first in
    let first = c.self-in-Err.invariant.first no_header in
    rw (← c.self-in-Err.view_is)
    (first_bad (state_of c.self-in-Err.inside) c.args.line.now c.requires.line fine
    c.self-in-Err.invariant.low no_header first.0 first.1 c.in-Err.rule (sym c.in-Err.ensures))
