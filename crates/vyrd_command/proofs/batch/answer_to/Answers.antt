use Rattle.std.proofs.Common.{◌∙◌}
use Rattle.vyrd_command.proofs.BatchLaws.{verdicts_told}
use Rattle.vyrd_command.proofs.batch.answer_to.Goals as goal

pub returns-in-Ok-clause-answer : goal.returns-in-Ok-clause-answer
returns-in-Ok-clause-answer g c = λ input j.
    let found = c.in-Ok.ensures.verdicts input j in
    verdicts_told input c.verdicts.result.now c.tell.result
    (found.0, found.1, c.verdicts.ensures.items ∙ found.2)
    c.tell.ensures.status c.tell.ensures.text
