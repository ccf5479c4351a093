use Rattle.std.proofs.Common.{◌≡◌, true, false, arith}
use Rattle.vyrd_mover.proofs.HeadLaws.{no_first, out_of_bounds, first_found}
use Rattle.vyrd_mover.proofs.line.read_first.Goals as goal

pub returns-in_err-subject : goal.returns-in_err-subject
returns-in_err-subject c = search (no_first, arith)

pub returns-in_err-header : goal.returns-in_err-header
returns-in_err-header c = rw c.from_residual-in_err-header.ensures
    (out_of_bounds c.args.line.now c.in_ok-subject.subject c.in_ok-subject.size
    c.in_ok-subject.callers (omega arith)
    (omega arith) c.in_ok-subject.ensures
    (λ h. let x : false ≡ true = c.in_err-header.ensures.within.1 h in cc))

pub returns : goal.returns
returns c =
    first_found c.args.line.now c.in_ok-subject.subject c.in_ok-subject.size c.in_ok-subject.callers
    (omega arith)
    (omega arith) c.in_ok-subject.ensures
    c.in_ok-header.header c.in_ok-header.ensures.version c.in_ok-header.ensures.subject
    c.in_ok-header.ensures.size c.in_ok-header.ensures.callers
