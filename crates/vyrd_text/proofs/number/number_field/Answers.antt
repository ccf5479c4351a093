use Rattle.std.proofs.Common.{arith}
use Rattle.vyrd_text.proofs.NumberLaws.{no_number, empty_field, leading_zero, one_digit}
use Rattle.vyrd_text.proofs.NumberLaws.{more_digits}
use Rattle.vyrd_text.proofs.number.number_field.Goals as goal

pub returns-in_err-value : goal.returns-in_err-value
returns-in_err-value c = search (no_number, arith)

pub returns-then-end-eq0 : goal.returns-then-end-eq0
returns-then-end-eq0 c = search (empty_field, arith)

pub returns-then-end-eq1 : goal.returns-then-end-eq1
returns-then-end-eq1 c = search (one_digit, arith)

pub returns-then-text-eq48 : goal.returns-then-text-eq48
returns-then-text-eq48 c = search (leading_zero, arith)

pub returns : goal.returns
returns c = more_digits c.args.text.now c.in_ok-value.value c.in_ok-value.end c.in_ok-value.ensures
    (omega arith) (omega arith) c.if-text-eq48.false
