use Rattle.std.proofs.Common.{arith}
use Rattle.vyrd_text.proofs.QuickLaws.{front_digit, front_digits, read_all, read_value}
use Rattle.vyrd_text.proofs.quick.front_number.Goals as goal

pub returns-then-end-eq1 : goal.returns-then-end-eq1
returns-then-end-eq1 c =
    let few = c.if-end-gt-FEW_DIGITS.false in
    let all = read_all c.args.text.now c.read_digits-end.result.1 c.read_digits-end.result.0
    c.read_digits-end.ensures.end (omega arith) c.read_digits-end.ensures.value in
    let is = read_value c.args.text.now c.read_digits-end.result.1 c.read_digits-end.result.0
    c.read_digits-end.ensures.end (omega arith) c.read_digits-end.ensures.value in
    front_digit c.args.text.now c.read_digits-end.result.1 c.read_digits-end.result.0
    c.read_digits-end.ensures.within all is (omega arith) c.if-end-eq1.true

pub returns : goal.returns
returns c =
    let all = read_all c.args.text.now c.read_digits-end.result.1 c.read_digits-end.result.0
    c.read_digits-end.ensures.end (omega arith) c.read_digits-end.ensures.value in
    let is = read_value c.args.text.now c.read_digits-end.result.1 c.read_digits-end.result.0
    c.read_digits-end.ensures.end (omega arith) c.read_digits-end.ensures.value in
    front_digits c.args.text.now c.read_digits-end.result.1 c.read_digits-end.result.0
    c.read_digits-end.ensures.within all is (omega arith) (omega arith) c.if-text-eq48.false
