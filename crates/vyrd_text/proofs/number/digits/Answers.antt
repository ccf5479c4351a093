use Rattle.vyrd_text.proofs.Prelude.{arith, get_or, digit_from_value, digits_more}
use Rattle.vyrd_text.proofs.Prelude.{digits_value_more}
use Rattle.vyrd_text.proofs.NumberLaws.{bad_byte, too_large, digit_is}
use Rattle.vyrd_text.proofs.number.digits.Goals as goal

pub returns-then-not-is_ascii_digit : goal.returns-then-not-is_ascii_digit
returns-then-not-is_ascii_digit c = λ ds rest all small e.
    bad_byte c.args.text.now ds rest e all c.loop-at.at c.loop-at.invariant.0 c.loop-at-test.true
    c.if-byte-eq32.false
    (λ d. let r = digit_from_value (get_or c.args.text.now c.loop-at.at 0) d in
    omega (arith, r, c.if-not-is_ascii_digit.ensures.cases))

pub returns-in_err-checked_mul : goal.returns-in_err-checked_mul
returns-in_err-checked_mul c = rw c.from_residual.ensures (λ ds rest all small e.
    too_large c.args.text.now ds rest e all c.loop-at.at c.loop-at.invariant.0 c.loop-at-test.true
    c.if-not-is_ascii_digit.ensures.bound small
    (omega (arith, c.in_err-checked_mul.ensures, c.loop-at.invariant.1)))

pub returns-in_err-value : goal.returns-in_err-value
returns-in_err-value c = rw c.from_residual-in_err-value.ensures (λ ds rest all small e.
    let digit = digit_is (get_or c.args.text.now c.loop-at.at 0)
    c.if-not-is_ascii_digit.ensures.bound in
    too_large c.args.text.now ds rest e all c.loop-at.at c.loop-at.invariant.0 c.loop-at-test.true
    c.if-not-is_ascii_digit.ensures.bound small
    (omega (
      arith,
      c.in_err-value.ensures,
      c.in_ok-checked_mul.ensures,
      c.from.ensures,
      c.loop-at.invariant.1,
      digit,
    )))

pub loop-at-preserved : goal.loop-at-preserved
loop-at-preserved c =
    let digit = digit_is (get_or c.args.text.now c.loop-at.at 0)
    c.if-not-is_ascii_digit.ensures.bound in (
      digits_more 10 c.args.text.now c.loop-at.at c.loop-at-test.true c.loop-at.invariant.0
          c.if-not-is_ascii_digit.ensures.bound,
      omega (
        arith,
        c.in_ok-value.ensures,
        c.in_ok-checked_mul.ensures,
        c.from.ensures,
        c.loop-at.invariant.1,
        digit,
        digits_value_more 10 c.args.text.now c.loop-at.at c.loop-at-test.true,
      ),
    )
