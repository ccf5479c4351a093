-- What the call does under the form that the words have is what it does for the words.
use Rattle.vyrd_command.proofs.Prelude.{◌≡◌, ◌≤◌, ap, ◌∙◌, sym, subst, Some, false, inl, length}
use Rattle.vyrd_command.proofs.Prelude.{◌==◌, most_lines, HasRoomForAnswer, reads_told}
use Rattle.vyrd_command.proofs.Prelude.{writes_within, form_said, usage_line, reads, HasRoom}
use Rattle.vyrd_command.proofs.Prelude.{IsEnough, IsNoFurther}
use Rattle.vyrd_command.proofs.CommandLaws.{written_status, written_answer, written_in_part}
use Rattle.vyrd_command.proofs.CommandLaws.{text_fits, enough_taken, checked_status}
use Rattle.vyrd_command.proofs.CommandLaws.{checked_untouched, checked_answer, checked_in_part}
use Rattle.vyrd_command.proofs.CommandLaws.{checked_enough, line_fits, usage_status, usage_answer}
use Rattle.vyrd_command.proofs.CommandLaws.{usage_in_part, usage_fits}
use Rattle.vyrd_command.proofs.EveryWritten.{step_written, run_written, run_has_room, gen_written}
use Rattle.vyrd_command.proofs.program.vyrd.Goals as goal

-- `check`
pub returns-in-Some-Check-clause-statuses : goal.returns-in-Some-Check-clause-statuses
returns-in-Some-Check-clause-statuses g c =
    let is = sym c.form_of.ensures.form ∙ c.in-Some-Check.is ∙ ap Some c.in-Some-Check.field-0-is in
    checked_status (form_said c.args.words.now) c.check_limited.result.status is
    c.check_limited.ensures.statuses

pub returns-in-Some-Check-clause-answered : goal.returns-in-Some-Check-clause-answered
returns-in-Some-Check-clause-answered g c =
    let is = sym c.form_of.ensures.form ∙ c.in-Some-Check.is ∙ ap Some c.in-Some-Check.field-0-is in
    checked_answer (form_said c.args.words.now) (g.S.Source.known c.args.source.now).rest
    (g.K.Sink.known c.args.sink.now).taken (g.K.Sink.known c.check_limited.new.sink).taken
    c.check_limited.result.status is c.check_limited.ensures.verdict

pub returns-in-Some-Check-clause-consumed : goal.returns-in-Some-Check-clause-consumed
returns-in-Some-Check-clause-consumed g c =
    let is = sym c.form_of.ensures.form ∙ c.in-Some-Check.is ∙ ap Some c.in-Some-Check.field-0-is in
    checked_enough (form_said c.args.words.now) (g.S.Source.known c.args.source.now)
    (g.S.Source.known c.check_limited.new.source)
    c.check_limited.result.status is c.check_limited.ensures.consumed

pub returns-in-Some-Check-clause-no_further : goal.returns-in-Some-Check-clause-no_further
returns-in-Some-Check-clause-no_further g c =
    let is = sym c.form_of.ensures.form ∙ c.in-Some-Check.is ∙ ap Some c.in-Some-Check.field-0-is in
    subst (λ said. IsNoFurther said (g.S.Source.known c.args.source.now)
    (g.S.Source.known c.check_limited.new.source)) (sym is)
    c.check_limited.ensures.no_further

pub returns-in-Some-Check-clause-untouched : goal.returns-in-Some-Check-clause-untouched
returns-in-Some-Check-clause-untouched g c = λ isnt.
    let is = sym c.form_of.ensures.form ∙ c.in-Some-Check.is ∙ ap Some c.in-Some-Check.field-0-is in
    absurd (checked_untouched (form_said c.args.words.now) is isnt)

pub returns-in-Some-Check-clause-answered_in_part :
    goal.returns-in-Some-Check-clause-answered_in_part
returns-in-Some-Check-clause-answered_in_part g c = λ five.
    let is = sym c.form_of.ensures.form ∙ c.in-Some-Check.is ∙ ap Some c.in-Some-Check.field-0-is in
    checked_in_part (form_said c.args.words.now) (g.S.Source.known c.args.source.now).rest
    (g.K.Sink.known c.args.sink.now).taken (g.K.Sink.known c.check_limited.new.sink).taken
    is (c.check_limited.ensures.answered_in_part five)

-- every other form
pub returns-in-Some-clause-statuses : goal.returns-in-Some-clause-statuses
returns-in-Some-clause-statuses g c =
    let is = sym c.form_of.ensures.form ∙ c.in-Some.is in
    written_status (form_said c.args.words.now) c.in-Some.form c.give.result.status
    c.carry_out-answer.result.status is
    c.give.ensures.statuses c.carry_out-answer.ensures.statuses

pub returns-in-Some-clause-answered : goal.returns-in-Some-clause-answered
returns-in-Some-clause-answered g c =
    let is = sym c.form_of.ensures.form ∙ c.in-Some.is in
    let answer = c.carry_out-answer.result in
    written_answer (form_said c.args.words.now) c.in-Some.form
    (g.S.Source.known c.args.source.now).rest (g.K.Sink.known c.args.sink.now).taken
    (g.K.Sink.known c.give.new.sink).taken
    c.give.result.status answer.status answer.text.items is c.give.ensures.statuses
    c.carry_out-answer.ensures.answer c.give.ensures.given

pub returns-in-Some-clause-consumed : goal.returns-in-Some-clause-consumed
returns-in-Some-clause-consumed g c =
    let is = sym c.form_of.ensures.form ∙ c.in-Some.is in
    enough_taken (form_said c.args.words.now) c.in-Some.form (g.S.Source.known c.args.source.now)
    (g.S.Source.known c.carry_out-answer.new.source)
    c.give.result.status c.carry_out-answer.result.status is c.give.ensures.statuses
    c.carry_out-answer.ensures.consumed

pub returns-in-Some-clause-no_further : goal.returns-in-Some-clause-no_further
returns-in-Some-clause-no_further g c =
    let is = sym c.form_of.ensures.form ∙ c.in-Some.is in
    subst (λ said. IsNoFurther said (g.S.Source.known c.args.source.now)
    (g.S.Source.known c.carry_out-answer.new.source)) (sym is)
    c.carry_out-answer.ensures.no_further

pub returns-in-Some-clause-untouched : goal.returns-in-Some-clause-untouched
returns-in-Some-clause-untouched g c = λ isnt.
    let is = sym c.form_of.ensures.form ∙ c.in-Some.is in
    c.carry_out-answer.ensures.untouched (subst (λ said. reads said ≡ false) is isnt)

pub returns-in-Some-clause-every_step : goal.returns-in-Some-clause-every_step
returns-in-Some-clause-every_step g c = λ show known.
    let is = sym c.form_of.ensures.form ∙ c.in-Some.is in
    let answer = c.carry_out-answer.result in
    step_written (form_said c.args.words.now) c.in-Some.form show
    (g.S.Source.known c.args.source.now).rest c.give.result.status answer.status answer.text.items
    is known c.carry_out-answer.ensures.answer c.give.ensures.statuses

pub returns-in-Some-clause-every_run : goal.returns-in-Some-clause-every_run
returns-in-Some-clause-every_run g c = λ show known.
    let is = sym c.form_of.ensures.form ∙ c.in-Some.is in
    let answer = c.carry_out-answer.result in
    run_written (form_said c.args.words.now) c.in-Some.form show
    (g.S.Source.known c.args.source.now).rest c.give.result.status answer.status answer.text.items
    is known c.carry_out-answer.ensures.answer c.give.ensures.statuses

pub returns-in-Some-clause-run_has_room : goal.returns-in-Some-clause-run_has_room
returns-in-Some-clause-run_has_room g c = λ show known.
    let is = sym c.form_of.ensures.form ∙ c.in-Some.is in
    let answer = c.carry_out-answer.result in
    run_has_room (form_said c.args.words.now) c.in-Some.form show
    (g.S.Source.known c.args.source.now).rest c.give.result.status answer.status answer.text.items
    is known c.carry_out-answer.ensures.answer c.give.ensures.statuses

pub returns-in-Some-clause-every_gen : goal.returns-in-Some-clause-every_gen
returns-in-Some-clause-every_gen g c = λ n known.
    let is = sym c.form_of.ensures.form ∙ c.in-Some.is in
    let answer = c.carry_out-answer.result in
    gen_written (form_said c.args.words.now) c.in-Some.form n
    (g.S.Source.known c.args.source.now).rest c.give.result.status answer.status answer.text.items
    is known c.carry_out-answer.ensures.answer c.give.ensures.statuses
    (c.form_of.ensures.few n (c.form_of.ensures.form ∙ known))

pub returns-in-Some-clause-answered_in_part : goal.returns-in-Some-clause-answered_in_part
returns-in-Some-clause-answered_in_part g c =
    let is = sym c.form_of.ensures.form ∙ c.in-Some.is in
    let answer = c.carry_out-answer.result in
    written_in_part (form_said c.args.words.now) c.in-Some.form
    (g.S.Source.known c.args.source.now).rest (g.K.Sink.known c.args.sink.now).taken
    (g.K.Sink.known c.give.new.sink).taken
    c.give.result.status answer.status answer.text.items is c.carry_out-answer.ensures.statuses
    c.carry_out-answer.ensures.unwritten c.carry_out-answer.ensures.silent
    c.carry_out-answer.ensures.answer
    c.give.ensures.silent c.give.ensures.in_part

-- words that are none of the forms
pub returns-in-None-clause-statuses : goal.returns-in-None-clause-statuses
returns-in-None-clause-statuses g c =
    let is = sym c.form_of.ensures.form ∙ c.in-None.is in
    usage_status (form_said c.args.words.now) c.give_usage.result.status is
    c.give_usage.ensures.statuses

pub returns-in-None-clause-answered : goal.returns-in-None-clause-answered
returns-in-None-clause-answered g c =
    let is = sym c.form_of.ensures.form ∙ c.in-None.is in
    usage_answer (form_said c.args.words.now) (g.S.Source.known c.args.source.now).rest
    (g.K.Sink.known c.args.sink.now).taken (g.K.Sink.known c.give_usage.new.sink).taken
    c.give_usage.result.status is c.give_usage.ensures.given

pub returns-in-None-clause-consumed : goal.returns-in-None-clause-consumed
returns-in-None-clause-consumed g c = λ answered.
    let is = sym c.form_of.ensures.form ∙ c.in-None.is in
    subst (λ said. IsEnough said c.give_usage.result.status (g.S.Source.known c.args.source.now)
    (g.S.Source.known c.args.source.now)) (sym is) tt

pub returns-in-None-clause-no_further : goal.returns-in-None-clause-no_further
returns-in-None-clause-no_further g c =
    let is = sym c.form_of.ensures.form ∙ c.in-None.is in
    subst (λ said. IsNoFurther said (g.S.Source.known c.args.source.now)
    (g.S.Source.known c.args.source.now)) (sym is) tt

pub returns-in-None-clause-answered_in_part : goal.returns-in-None-clause-answered_in_part
returns-in-None-clause-answered_in_part g c = λ five.
    let is = sym c.form_of.ensures.form ∙ c.in-None.is in
    usage_in_part (form_said c.args.words.now) (g.S.Source.known c.args.source.now).rest
    (g.K.Sink.known c.args.sink.now).taken (g.K.Sink.known c.give_usage.new.sink).taken
    is (c.give_usage.ensures.in_part five)

-- reads and writes
pub returns-in-Some-Check-clause-sink : goal.returns-in-Some-Check-clause-sink
returns-in-Some-Check-clause-sink g c =
    let is = sym c.form_of.ensures.form ∙ c.in-Some-Check.is ∙ ap Some c.in-Some-Check.field-0-is in
    let input = (g.S.Source.known c.args.source.now).rest in
    let room = (g.K.Sink.known c.args.sink.now).sure_room in
    writes_within (c.check_limited.result.status == 5)
    (HasRoom (form_said c.args.words.now) input room) (HasRoomForAnswer most_lines input room)
    (g.K.Sink.known c.args.sink.now) (g.K.Sink.known c.check_limited.new.sink)
    (line_fits (form_said c.args.words.now) input room is) c.check_limited.ensures.sink

pub returns-in-Some-clause-source : goal.returns-in-Some-clause-source
returns-in-Some-clause-source g c =
    reads_told c.give.result.status c.carry_out-answer.result.status
    (g.S.Source.known c.args.source.now) (g.S.Source.known c.carry_out-answer.new.source)
    c.give.ensures.statuses
    (λ four. c.give.ensures.silent (c.carry_out-answer.ensures.silent (inl four)))
    c.carry_out-answer.ensures.source

pub returns-in-Some-clause-sink : goal.returns-in-Some-clause-sink
returns-in-Some-clause-sink g c =
    let is = sym c.form_of.ensures.form ∙ c.in-Some.is in
    let answer = c.carry_out-answer.result in
    let input = (g.S.Source.known c.args.source.now).rest in
    let room = (g.K.Sink.known c.args.sink.now).sure_room in
    writes_within (c.give.result.status == 5) (HasRoom (form_said c.args.words.now) input room)
    (length answer.text.items ≤ room)
    (g.K.Sink.known c.args.sink.now) (g.K.Sink.known c.give.new.sink)
    (text_fits (form_said c.args.words.now) c.in-Some.form input answer.status room
    answer.text.items is
    c.carry_out-answer.ensures.statuses c.carry_out-answer.ensures.unwritten
    c.carry_out-answer.ensures.silent c.carry_out-answer.ensures.answer)
    (c.give.ensures.sink c.carry_out-answer.ensures.unwritten)

pub returns-in-None-clause-sink : goal.returns-in-None-clause-sink
returns-in-None-clause-sink g c =
    let is = sym c.form_of.ensures.form ∙ c.in-None.is in
    let input = (g.S.Source.known c.args.source.now).rest in
    let room = (g.K.Sink.known c.args.sink.now).sure_room in
    writes_within (c.give_usage.result.status == 5)
    (HasRoom (form_said c.args.words.now) input room) (length usage_line ≤ room)
    (g.K.Sink.known c.args.sink.now) (g.K.Sink.known c.give_usage.new.sink)
    (usage_fits (form_said c.args.words.now) input room is) c.give_usage.ensures.sink
