use Rattle.std.proofs.Common.{arith}
use Rattle.vyrd_text.proofs.PartLaws.{no_second}
use Rattle.vyrd_text.proofs.line.read_two.Goals as goal

pub returns-in_err-b : goal.returns-in_err-b
returns-in_err-b c = rw c.from_residual-in_err-b.ensures
    (no_second c.args.text.now c.in_ok-a.a c.in_ok-a.rest.now (omega (arith, c.in_ok-a.ensures.0))
    c.in_ok-a.ensures.1 c.in_err-b.ensures)
