use Rattle.vyrd_command.proofs.Prelude.{batch_logs, longest_batch_input, none_failed, input_taken}
use Rattle.vyrd_command.proofs.BatchLaws.{logs_are_input, batch_refused, taken_for}
use Rattle.vyrd_command.proofs.StatusLaws.{batch_isnt_four}
use Rattle.vyrd_command.proofs.batch.batch_counted.Goals as goal

pub returns-in-Ok-answer_to-clause-answers : goal.returns-in-Ok-answer_to-clause-answers
returns-in-Ok-answer_to-clause-answers g c = λ answered.
    let read = c.in-Ok.ensures.read in
    record {
      said = batch_logs read.taken;
      read = logs_are_input (g.S.Source.known c.args.source.now)
          (g.S.Source.known c.read_rounds.new.source) read.taken read.read;
      answer = c.in-Ok-answer_to.ensures.answer read.taken read.judged;
    }

pub returns-in-Ok-answer_to-clause-source : goal.returns-in-Ok-answer_to-clause-source
returns-in-Ok-answer_to-clause-source g c =
    let answer = c.in-Ok-answer_to.answer in
    none_failed answer.status (g.S.Source.known c.args.source.now)
    (g.S.Source.known c.read_rounds.new.source)
    (batch_isnt_four answer.status c.in-Ok-answer_to.ensures.statuses) c.in-Ok.ensures.source

pub returns-in-Ok-answer_to-clause-consumed : goal.returns-in-Ok-answer_to-clause-consumed
returns-in-Ok-answer_to-clause-consumed g c = λ answered.
    let answer = c.in-Ok-answer_to.answer in
    let read = c.in-Ok.ensures.read in
    input_taken longest_batch_input 11 answer.status (g.S.Source.known c.args.source.now)
    (g.S.Source.known c.read_rounds.new.source) read.taken read.read
    (batch_refused read.taken answer.status answer.text.items
    (c.in-Ok-answer_to.ensures.answer read.taken read.judged))

pub returns-in-Ok-answer_to-clause-steps : goal.returns-in-Ok-answer_to-clause-steps
returns-in-Ok-answer_to-clause-steps g c =
    let paid = c.in-Ok.ensures.paid in
    taken_for (g.S.Source.known c.args.source.now) (g.S.Source.known c.read_rounds.new.source)
    c.read_rounds.new.judge c.in-Ok.rest.items
    c.args.steps.now c.read_rounds.new.steps c.answer_to.new.steps paid
    (c.answer_to.ensures.steps paid.left paid.fresh paid.spent paid.rest_is)
