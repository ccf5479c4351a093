use Rattle.vyrd_text.proofs.Prelude.{arith, get_or, digits_more, digits_value_more}
use Rattle.vyrd_text.proofs.NumberLaws.{digit_is}
use Rattle.vyrd_text.proofs.QuickLaws.{front_digit, front_digits}
use Rattle.vyrd_text.proofs.quick.few_digits.Goals as goal

pub loop-end-preserved : goal.loop-end-preserved
loop-end-preserved c =
    let digit = digit_is (get_or c.args.text.now c.loop-end.end 0)
    c.if-is_ascii_digit.ensures.bound in (
      omega arith,
      digits_more 10 c.args.text.now c.loop-end.end c.loop-end-test.true c.loop-end.invariant.1
          c.if-is_ascii_digit.ensures.bound,
      omega (
        arith,
        c.from.ensures,
        c.loop-end.invariant.2,
        digit,
        digits_value_more 10 c.args.text.now c.loop-end.end c.loop-end-test.true,
      ),
    )

pub returns-then-end-eq1 : goal.returns-then-end-eq1
returns-then-end-eq1 c = front_digit c.args.text.now c.loop-end.value c.loop-end.end
    c.loop-end.invariant.0 c.loop-end.invariant.1
    c.loop-end.invariant.2 (omega arith) c.if-end-eq1.true

pub returns : goal.returns
returns c = front_digits c.args.text.now c.loop-end.value c.loop-end.end c.loop-end.invariant.0
    c.loop-end.invariant.1
    c.loop-end.invariant.2 (omega arith) (omega arith) c.if-text-eq48.false
