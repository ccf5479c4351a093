use Rattle.vyrd_command.proofs.FormLaws.{no_count, a_count, zero_out, high_out, within}
use Rattle.vyrd_command.proofs.form.in_range.Goals as goal

pub returns-then-number-eq0 : goal.returns-then-number-eq0
returns-then-number-eq0 c = λ word is. no_count c.args.number word c.ranges.number.fits is
    (zero_out c.args.number c.if-number-eq0.true)

pub returns-then-number-gt-MOST_OPS : goal.returns-then-number-gt-MOST_OPS
returns-then-number-gt-MOST_OPS c =
    λ word is. no_count c.args.number word c.ranges.number.fits is
    (high_out c.args.number c.if-number-gt-MOST_OPS.true)

pub returns : goal.returns
returns c = λ word is. a_count c.args.number word c.ranges.number.fits is
    (within c.args.number c.if-number-eq0.false c.if-number-gt-MOST_OPS.false)
