use Rattle.vyrd_buffers.proofs.Steps.{read_next}
use Rattle.vyrd_buffers.proofs.task.Task.after_reading.Goals as goal

pub returns-in-Some : goal.returns-in-Some
returns-in-Some c = λ h.
    read_next h c.args.self.b c.args.text c.with.result c.args.answer c.in-Some.ensures.1
    c.with.ensures.number c.with.ensures.read c.with.ensures.of
