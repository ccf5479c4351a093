use Rattle.vyrd_own_log.proofs.Prelude.{subst, IsAnswer, state_in}
use Rattle.vyrd_own_log.proofs.ReadLaws.{fed_read, fed_entries, fed_numbers, fed_fault, unless}
use Rattle.vyrd_own_log.proofs.ReadLaws.{ok_of}
use Rattle.vyrd_own_log.proofs.reader.OwnLogReader.feed.Goals as goal

pub returns-clause-read : goal.returns-clause-read
returns-clause-read c = λ bytes has. unless c.answer-2.result
    (fed_read (state_in c.args.self.now) _ bytes c.args.piece.now c.args.out.now.items
    c.take_piece.new.out.items
    c.args.numbers.now.items c.take_piece.new.numbers.items has
    (ok_of c.take_piece.result c.if-is_err.ensures.value c.take_piece.ensures.fed)
    (ok_of c.take_piece.result c.if-is_err.ensures.value c.take_piece.ensures.sound) has.works)

pub returns-clause-entries : goal.returns-clause-entries
returns-clause-entries c = λ bytes has. unless c.answer-2.result
    (fed_entries (state_in c.args.self.now) _ bytes c.args.piece.now c.args.out.now.items
    c.take_piece.new.out.items
    c.args.numbers.now.items c.take_piece.new.numbers.items has
    (ok_of c.take_piece.result c.if-is_err.ensures.value c.take_piece.ensures.fed)
    (ok_of c.take_piece.result c.if-is_err.ensures.value c.take_piece.ensures.sound) has.works)

pub returns-clause-numbers : goal.returns-clause-numbers
returns-clause-numbers c = λ bytes has. unless c.answer-2.result
    (fed_numbers (state_in c.args.self.now) _ bytes c.args.piece.now c.args.out.now.items
    c.take_piece.new.out.items
    c.args.numbers.now.items c.take_piece.new.numbers.items has
    (ok_of c.take_piece.result c.if-is_err.ensures.value c.take_piece.ensures.fed)
    (ok_of c.take_piece.result c.if-is_err.ensures.value c.take_piece.ensures.sound) has.works)

pub returns-clause-answer : goal.returns-clause-answer
returns-clause-answer c = λ bytes has. unless c.answer-2.result
    (subst (λ f. IsAnswer c.answer-2.result f)
    (fed_fault (state_in c.args.self.now) _ bytes c.args.piece.now c.args.out.now.items
    c.take_piece.new.out.items
    c.args.numbers.now.items c.take_piece.new.numbers.items has
    (ok_of c.take_piece.result c.if-is_err.ensures.value c.take_piece.ensures.fed)
    (ok_of c.take_piece.result c.if-is_err.ensures.value c.take_piece.ensures.sound) has.works)
    c.answer-2.ensures)
