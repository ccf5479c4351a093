use Rattle.vyrd_mover.proofs.HeadLaws.{no_bounds}
use Rattle.vyrd_mover.proofs.line.read_words.Goals as goal

pub returns-in_err-size : goal.returns-in_err-size
returns-in_err-size c = rw c.from_residual-in_err-size.ensures
    (no_bounds c.args.line.now c.in_ok-rest.rest.now c.in_ok-subject.subject
    c.in_ok-subject.rest.now c.in_ok-rest.ensures c.in_ok-subject.ensures.1 c.in_err-size.ensures)
