use Rattle.std.proofs.Common.{arith, sym}
use Rattle.vyrd_text.proofs.HeaderLaws.{no_callers, not_sized}
use Rattle.vyrd_text.proofs.header.read_limits.Goals as goal

pub returns-in_err-callers : goal.returns-in_err-callers
returns-in_err-callers c = rw c.from_residual-in_err-callers.ensures
    (no_callers c.args.text.now c.in_ok-size.size c.in_ok-size.rest.now
    (omega (arith, c.in_ok-size.ensures.0)) c.in_ok-size.ensures.1 c.in_err-callers.ensures)

pub returns-then-not-are_limits : goal.returns-then-not-are_limits
returns-then-not-are_limits c =
    not_sized c.args.text.now c.in_ok-size.size c.in_ok-callers.callers c.in_ok-size.rest.now
    (omega (arith, c.in_ok-size.ensures.0)) (omega arith) c.in_ok-size.ensures.1
    c.in_ok-callers.ensures
    (sym c.if-not-are_limits.ensures)
