use Rattle.std.proofs.Common.{arith}
use Rattle.vyrd_mover.proofs.HeadLaws.{no_callers}
use Rattle.vyrd_mover.proofs.line.read_bounds.Goals as goal

pub returns-in_err-callers : goal.returns-in_err-callers
returns-in_err-callers c = rw c.from_residual-in_err-callers.ensures
    (no_callers c.args.text.now c.in_ok-size.size c.in_ok-size.rest.now
    (omega (arith, c.in_ok-size.ensures.0)) c.in_ok-size.ensures.1 c.in_err-callers.ensures)
