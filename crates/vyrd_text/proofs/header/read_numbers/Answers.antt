use Rattle.std.proofs.Common.{arith}
use Rattle.vyrd_text.proofs.HeaderLaws.{no_subject, no_limits}
use Rattle.vyrd_text.proofs.header.read_numbers.Goals as goal

pub returns-in_err-subject : goal.returns-in_err-subject
returns-in_err-subject c = rw c.from_residual-in_err-subject.ensures
    (no_subject c.args.line.now c.in_ok-rest.rest.now c.in_ok-version.version
    c.in_ok-version.rest.now (omega (arith, c.in_ok-version.ensures.0))
    c.in_ok-rest.ensures c.in_ok-version.ensures.1 c.in_err-subject.ensures)

pub returns-in_err-size : goal.returns-in_err-size
returns-in_err-size c = rw c.from_residual-in_err-size.ensures
    (no_limits c.args.line.now c.in_ok-rest.rest.now c.in_ok-version.version
    c.in_ok-version.rest.now c.in_ok-subject.subject c.in_ok-subject.rest.now
    (omega (arith, c.in_ok-version.ensures.0))
    c.in_ok-rest.ensures c.in_ok-version.ensures.1 c.in_ok-subject.ensures.1 c.in_err-size.ensures)
