use Rattle.std.proofs.Common.{arith}
use Rattle.vyrd_text.proofs.QuickLaws.{no_digits, digit_after, digits_front}
use Rattle.vyrd_text.proofs.quick.four_before.Goals as goal

pub returns : goal.returns
returns c =
    let text = c.args.text.now in
    let one = digit_after text 0 0 c.from.result (no_digits text)
    (omega arith) c.if-not-is_ascii_digit.ensures.bound (omega (arith, c.from.ensures)) in
    let two = digit_after text c.from.result 1 c.then_digit.result one
    (omega arith) c.if-not-is_ascii_digit-2.ensures.bound c.then_digit.ensures in
    let three = digit_after text c.then_digit.result 2 c.then_digit-front.result two
    (omega arith) c.if-not-is_ascii_digit-3.ensures.bound c.then_digit-front.ensures in
    let four = digit_after text c.then_digit-front.result 3 c.then_digit-2.result three
    (omega arith) c.if-not-is_ascii_digit-4.ensures.bound c.then_digit-2.ensures in
    digits_front text c.then_digit-2.result 4 c.args.byte four (omega arith) (omega arith)
    (omega arith) c.if-a-eq48.false (omega arith)
