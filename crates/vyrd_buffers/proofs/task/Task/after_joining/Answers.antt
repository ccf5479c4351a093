use Rattle.std.proofs.Common.{ap, ◌∙◌, sym}
use Rattle.vyrd_memory.specs.Scripts.{after_answer}
use Rattle.vyrd_buffers.specs.Rests.{joining_rest}
use Rattle.vyrd_buffers.proofs.Steps.{load_next}
use Rattle.vyrd_buffers.proofs.task.Task.after_joining.Goals as goal

pub returns-in-Some : goal.returns-in-Some
returns-in-Some c = λ h.
    load_next h c.args.self c.in-Load.count c.in-Load.held c.with.result c.args.answer
    c.in-Some.ensures.1
    c.with.ensures.held c.with.ensures.loaded c.with.ensures.of
    ∙ ap (λ place. after_answer (joining_rest h c.args.self place) c.args.answer) (sym c.in-Load.is)
