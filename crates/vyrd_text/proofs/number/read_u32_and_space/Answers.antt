use Rattle.std.proofs.Common.{arith, Some, decimal, ap, length, ◌∷◌, length-append}
use Rattle.vyrd_text.proofs.NumberLaws.{one_number}
use Rattle.vyrd_text.proofs.number.read_u32_and_space.Goals as goal

pub returns-in_err-number : goal.returns-in_err-number
returns-in_err-number c = rw c.from_residual.ensures
    (λ n rest small e. c.in_err-number.ensures n (Some rest) (omega arith) e)

pub returns-then-end-text : goal.returns-then-end-text
returns-then-end-text c = λ n rest small e.
    let is = one_number c.args.text.now c.in_ok-number.number c.in_ok-number.end n
    (Some rest) c.in_ok-number.ensures (omega arith) (omega arith) e in
    omega (arith, is.0, ap length e, length-append (decimal n) (32 ∷ rest))

pub returns-then-number-from : goal.returns-then-number-from
returns-then-number-from c = λ n rest small e.
    let is = one_number c.args.text.now c.in_ok-number.number c.in_ok-number.end n
    (Some rest) c.in_ok-number.ensures (omega arith) (omega arith) e in
    omega (arith, is.1)
