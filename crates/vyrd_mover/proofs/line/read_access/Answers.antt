use Rattle.std.proofs.Common.{arith}
use Rattle.vyrd_mover.proofs.EventLaws.{no_value}
use Rattle.vyrd_mover.proofs.line.read_access.Goals as goal

pub returns-in_err-value : goal.returns-in_err-value
returns-in_err-value c = rw c.from_residual-in_err-value.ensures
    (no_value c.args.text.now c.in_ok-cell.cell c.in_ok-cell.rest.now
    (omega (arith, c.in_ok-cell.ensures.0)) c.in_ok-cell.ensures.1 c.in_err-value.ensures)
