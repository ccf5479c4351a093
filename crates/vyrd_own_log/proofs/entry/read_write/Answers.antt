use Rattle.std.proofs.Common.{arith}
use Rattle.vyrd_own_log.proofs.EntryLaws.{no_value}
use Rattle.vyrd_own_log.proofs.entry.read_write.Goals as goal

pub returns-in_err-value : goal.returns-in_err-value
returns-in_err-value c = rw c.from_residual-in_err-value.ensures
    (no_value c.args.text.now c.in_ok-word.word c.in_ok-word.rest.now
    (omega (arith, c.in_ok-word.ensures.0)) c.in_ok-word.ensures.1 c.in_err-value.ensures)
