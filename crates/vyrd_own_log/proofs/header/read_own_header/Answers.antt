use Rattle.std.proofs.Common.{arith}
use Rattle.vyrd_own_log.proofs.HeaderLaws.{no_beginning, no_words, no_callers, header_read}
use Rattle.vyrd_own_log.proofs.header.read_own_header.Goals as goal

pub returns-in_err-rest : goal.returns-in_err-rest
returns-in_err-rest c = rw c.from_residual.ensures
    (no_beginning c.args.line.now c.in_err-rest.ensures)

pub returns-in_err-words : goal.returns-in_err-words
returns-in_err-words c = rw c.from_residual-in_err-words.ensures
    (no_words c.args.line.now c.in_ok-rest.rest.now c.in_ok-rest.ensures c.in_err-words.ensures)

pub returns-in_err-callers : goal.returns-in_err-callers
returns-in_err-callers c = rw c.from_residual-in_err-callers.ensures
    (no_callers c.args.line.now c.in_ok-rest.rest.now c.in_ok-rest.ensures c.in_ok-words.words
    c.in_ok-words.rest.now
    c.in_ok-words.ensures.0 c.in_ok-words.ensures.1 c.in_err-callers.ensures)

pub returns : goal.returns
returns c = header_read c.args.line.now c.in_ok-rest.rest.now c.in_ok-rest.ensures
    c.in_ok-words.words c.in_ok-words.rest.now
    c.in_ok-words.ensures.0 c.in_ok-words.ensures.1 c.in_ok-callers.callers
    (omega arith) c.in_ok-callers.ensures c.new.result
    c.new.ensures.within c.new.ensures.version c.new.ensures.subject c.new.ensures.size
    c.new.ensures.callers
