use Rattle.std.proofs.Common.{arith}
use Rattle.vyrd_text.proofs.PartLaws.{no_middle, no_third}
use Rattle.vyrd_text.proofs.line.read_three.Goals as goal

pub returns-in_err-b : goal.returns-in_err-b
returns-in_err-b c = rw c.from_residual-in_err-b.ensures
    (no_middle c.args.text.now c.in_ok-a.a c.in_ok-a.rest.now (omega (arith, c.in_ok-a.ensures.0))
    c.in_ok-a.ensures.1 c.in_err-b.ensures)

pub returns-in_err-c : goal.returns-in_err-c
returns-in_err-c c = rw c.from_residual-in_err-c.ensures
    (no_third c.args.text.now c.in_ok-a.a c.in_ok-b.b c.in_ok-a.rest.now c.in_ok-b.rest.now
    (omega (arith, c.in_ok-a.ensures.0))
    (omega (arith, c.in_ok-b.ensures.0)) c.in_ok-a.ensures.1 c.in_ok-b.ensures.1 c.in_err-c.ensures)
