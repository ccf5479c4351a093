use Rattle.vyrd_command.proofs.Prelude.{longest_input, work_reading, none_failed, input_taken}
use Rattle.vyrd_command.proofs.StepLaws.{reading_is_input, step_refused}
use Rattle.vyrd_command.proofs.StatusLaws.{step_isnt_four}
use Rattle.vyrd_command.proofs.step.step.Goals as goal

pub returns-in-Ok-answer_to-clause-answers : goal.returns-in-Ok-answer_to-clause-answers
returns-in-Ok-answer_to-clause-answers g c = λ answered.
    record {
      said = work_reading c.in-Ok.bytes.items;
      read = reading_is_input (g.S.Source.known c.args.source.now)
          (g.S.Source.known c.read_input.new.source) c.in-Ok.bytes.items c.in-Ok.ensures.read;
      answer = c.in-Ok-answer_to.ensures;
    }

pub returns-in-Ok-answer_to-clause-source : goal.returns-in-Ok-answer_to-clause-source
returns-in-Ok-answer_to-clause-source g c =
    let answer = c.in-Ok-answer_to.answer in
    none_failed answer.status (g.S.Source.known c.args.source.now)
    (g.S.Source.known c.read_input.new.source)
    (step_isnt_four c.args.show (work_reading c.in-Ok.bytes.items) answer.status answer.text.items
    c.in-Ok-answer_to.ensures) c.in-Ok.ensures.source

pub returns-in-Ok-answer_to-clause-consumed : goal.returns-in-Ok-answer_to-clause-consumed
returns-in-Ok-answer_to-clause-consumed g c = λ answered.
    let answer = c.in-Ok-answer_to.answer in
    let bytes = c.in-Ok.bytes.items in
    input_taken longest_input 7 answer.status (g.S.Source.known c.args.source.now)
    (g.S.Source.known c.read_input.new.source) bytes c.in-Ok.ensures.read
    (step_refused c.args.show bytes answer.status answer.text.items c.in-Ok-answer_to.ensures)
