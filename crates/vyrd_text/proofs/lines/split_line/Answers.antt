use Rattle.std.proofs.Common.{arith}
use Rattle.vyrd_text.proofs.PieceLaws.{front_one_line, whole_one_line, parts_at}
use Rattle.vyrd_text.proofs.lines.split_line.Goals as goal

pub returns-in_err-at : goal.returns-in_err-at
returns-in_err-at c = rw c.from_residual.ensures
    (whole_one_line c.args.text.now (λ i l. c.in_err-at.ensures i (omega arith) l))

pub returns : goal.returns
returns c =
    let found = c.in_ok-at.ensures in (
      front_one_line c.in_ok-at.at c.args.text.now (omega (arith, found.0.high))
          (λ i l. found.0.before i (omega arith) l),
      parts_at c.args.text.now c.in_ok-at.at found.0.high found.1,
    )
