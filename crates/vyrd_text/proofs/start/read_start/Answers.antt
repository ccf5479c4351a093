use Rattle.std.proofs.Common.{arith}
use Rattle.vyrd_text.proofs.StartLaws.{no_word, no_number, no_start_value, start_made}
use Rattle.vyrd_text.proofs.start.read_start.Goals as goal

pub returns-in_err-rest : goal.returns-in_err-rest
returns-in_err-rest c = rw c.from_residual.ensures (no_word c.args.line.now c.in_err-rest.ensures)

pub returns-in_err-word : goal.returns-in_err-word
returns-in_err-word c = rw c.from_residual-in_err-word.ensures
    (no_number c.args.line.now c.in_ok-rest.rest.now c.in_ok-rest.ensures c.in_err-word.ensures)

pub returns-in_err-value : goal.returns-in_err-value
returns-in_err-value c = rw c.from_residual-in_err-value.ensures
    (no_start_value c.args.line.now c.in_ok-rest.rest.now c.in_ok-word.word c.in_ok-word.rest.now
    c.in_ok-rest.ensures
    c.in_ok-word.ensures.0 c.in_ok-word.ensures.1 c.in_err-value.ensures)

pub returns : goal.returns
returns c =
    start_made c.args.line.now c.in_ok-rest.rest.now c.in_ok-word.word c.in_ok-word.rest.now
    c.in_ok-value.value c.in_ok-rest.ensures
    c.in_ok-word.ensures.0 c.in_ok-word.ensures.1 (omega arith) c.in_ok-value.ensures
