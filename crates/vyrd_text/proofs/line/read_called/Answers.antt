use Rattle.vyrd_text.proofs.PartLaws.{no_call}
use Rattle.vyrd_text.proofs.line.read_called.Goals as goal

pub returns-in_err-method : goal.returns-in_err-method
returns-in_err-method c = rw c.from_residual.ensures
    (no_call c.args.subject c.args.text.now c.in_err-method.ensures)
