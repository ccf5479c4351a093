use Rattle.std.proofs.Common.{arith}
use Rattle.vyrd_mover.proofs.EventLaws.{no_did}
use Rattle.vyrd_mover.proofs.line.read_stamped.Goals as goal

pub returns-in_err-did : goal.returns-in_err-did
returns-in_err-did c = rw c.from_residual-in_err-did.ensures
    (no_did c.args.number c.args.line.now c.in_ok-caller.caller c.in_ok-caller.rest.now
    (omega (arith, c.in_ok-caller.ensures.0)) c.in_ok-caller.ensures.1 c.in_err-did.ensures)
