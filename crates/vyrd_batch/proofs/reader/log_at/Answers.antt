use Rattle.std.proofs.Common.{◌∷◌, length, ap, arith, length-append}
use Rattle.vyrd_batch.proofs.LineFacts.{no_log, no_size, too_long, too_far, is_log, behind_log}
use Rattle.vyrd_batch.proofs.reader.log_at.Goals.{then-size-rest-via-then-size-rest}
use Rattle.vyrd_batch.proofs.reader.log_at.Goals.{then-size-rest-via-else-size-rest+then-first-size-gt-LOGS_END_WITHIN}
use Rattle.vyrd_batch.proofs.reader.log_at.Goals as goal

pub returns-in_err-line-clause-log : goal.returns-in_err-line-clause-log
returns-in_err-line-clause-log g c = rw c.from_residual.ensures
    (no_log c.args.place c.args.bytes.now c.in_err-line.ensures.line)

pub returns-in_err-size-clause-log : goal.returns-in_err-size-clause-log
returns-in_err-size-clause-log g c = rw c.from_residual-in_err-size.ensures
    (no_size c.args.place c.args.bytes.now c.in_ok-line.line.now c.in_ok-line.rest.now
    c.in_ok-line.ensures.line.0 c.in_ok-line.ensures.line.1 c.in_err-size.ensures)

pub returns-then-size-rest-clause-log : goal.returns-then-size-rest-clause-log
returns-then-size-rest-clause-log g c = elim c.then-size-rest.branch [
  | then-size-rest-via-then-size-rest w ↦ too_long c.args.place c.in_ok-size.size c.args.bytes.now
      c.in_ok-line.line.now c.in_ok-line.rest.now
      c.in_ok-line.ensures.line.0 c.in_ok-line.ensures.line.1 c.in_ok-size.ensures
      w.if-size-rest.true
  | then-size-rest-via-else-size-rest+then-first-size-gt-LOGS_END_WITHIN w ↦ too_far c.args.place
      c.in_ok-size.size c.args.bytes.now
      c.in_ok-line.line.now c.in_ok-line.rest.now c.in_ok-line.ensures.line.0
      c.in_ok-line.ensures.line.1 c.in_ok-size.ensures
      w.if-first-size-gt-LOGS_END_WITHIN.true
]

pub returns-clause-log : goal.returns-clause-log
returns-clause-log g c =
    let size = c.in_ok-size.size in
    let bytes = c.args.bytes.now in
    let line = c.in_ok-line.line.now in
    let rest = c.in_ok-line.rest.now in
    let is = c.in_ok-line.ensures.line.1 in (
      is_log c.args.place size bytes line rest c.in_ok-line.ensures.line.0 is c.in_ok-size.ensures
          c.if-size-rest.false c.if-first-size-gt-LOGS_END_WITHIN.false,
      behind_log c.args.place size bytes line rest c.split_at.result.1.now is
          c.split_at.ensures.back,
      omega arith,
      omega arith,
      omega (
        arith,
        ap length is,
        length-append line
            (10 ∷ rest),
        c.split_at.ensures.back_len,
        c.if-size-rest.false,
      ),
    )
