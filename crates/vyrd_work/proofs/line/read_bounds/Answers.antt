use Rattle.std.proofs.Common.{arith}
use Rattle.vyrd_work.proofs.FirstLaws.{no_callers, no_variant}
use Rattle.vyrd_work.proofs.line.read_bounds.Goals as goal

pub returns-in_err-callers : goal.returns-in_err-callers
returns-in_err-callers c = rw c.from_residual-in_err-callers.ensures
    (no_callers c.args.text.now c.in_ok-size.size c.in_ok-size.rest.now
    (omega (arith, c.in_ok-size.ensures.0)) c.in_ok-size.ensures.1 c.in_err-callers.ensures)

pub returns-in_err-variant : goal.returns-in_err-variant
returns-in_err-variant c = rw c.from_residual-in_err-variant.ensures
    (no_variant c.args.text.now c.in_ok-size.size c.in_ok-callers.callers c.in_ok-size.rest.now
    c.in_ok-callers.rest.now
    (omega (arith, c.in_ok-size.ensures.0))
    (omega (arith, c.in_ok-callers.ensures.0))
    c.in_ok-size.ensures.1 c.in_ok-callers.ensures.1 c.in_err-variant.ensures)
