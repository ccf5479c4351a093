use Rattle.vyrd_command.proofs.Prelude.{history_reading, longest_history, none_failed, input_taken}
use Rattle.vyrd_command.proofs.MoversLaws.{history_is_input, movers_refused}
use Rattle.vyrd_command.proofs.StatusLaws.{movers_isnt_four}
use Rattle.vyrd_command.proofs.movers.movers.Goals as goal

pub returns-in-Ok-answer_of-clause-answers : goal.returns-in-Ok-answer_of-clause-answers
returns-in-Ok-answer_of-clause-answers g c = λ answered.
    let had = c.in-Ok.ensures.read in
    record {
      said = history_reading had.bytes;
      read = history_is_input (g.S.Source.known c.args.source.now)
          (g.S.Source.known c.read_history.new.source) had.bytes had.input;
      answer = c.in-Ok-answer_of.ensures had.bytes had.read;
    }

pub returns-in-Ok-answer_of-clause-consumed : goal.returns-in-Ok-answer_of-clause-consumed
returns-in-Ok-answer_of-clause-consumed g c = λ answered.
    let had = c.in-Ok.ensures.read in
    let answer = c.in-Ok-answer_of.answer in
    input_taken longest_history 10 answer.status (g.S.Source.known c.args.source.now)
    (g.S.Source.known c.read_history.new.source) had.bytes had.input
    (movers_refused had.bytes answer.status answer.text.items
    (c.in-Ok-answer_of.ensures had.bytes had.read))

pub returns-in-Ok-answer_of-clause-source : goal.returns-in-Ok-answer_of-clause-source
returns-in-Ok-answer_of-clause-source g c =
    let answer = c.in-Ok-answer_of.answer in
    let had = c.in-Ok.ensures.read in
    none_failed answer.status (g.S.Source.known c.args.source.now)
    (g.S.Source.known c.read_history.new.source)
    (movers_isnt_four (history_reading had.bytes) answer.status answer.text.items
    (c.in-Ok-answer_of.ensures had.bytes had.read)) c.in-Ok.ensures.source
