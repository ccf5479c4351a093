use Rattle.vyrd_text.proofs.Prelude.{lines_of, IsFed}
use Rattle.vyrd_text.proofs.ReaderLaws.{reader_with}
use Rattle.vyrd_text.proofs.ReadLaws.{fed_read, fed_start, fed_entries, fed_fault, unless}
use Rattle.vyrd_text.proofs.reader.LogReader.feed.Goals as goal

-- what the piece makes of the reader and of the entries
fed : (c : goal.After-answer-2) → IsFed (lines_of c.args.self.now) c.args.piece.now
    c.args.self.now.start c.take_piece.new.start.items
    c.args.out.now.items c.take_piece.new.out.items c.take_piece.new.self
fed c =
    rw (← c.self.view_is)
    (rw (← c.reserve-2.ensures.items)
    (rw (← c.reserve.ensures.items)
    c.take_piece.ensures))

pub returns-clause-read : goal.returns-clause-read
returns-clause-read c = λ bytes has. unless c.answer-2.result
    (fed_read c.args.self.now (reader_with c.take_piece.new.self c.take_piece.new.start.items) bytes
    c.args.piece.now
    c.args.out.now.items c.take_piece.new.out.items has (fed c))

pub returns-clause-start : goal.returns-clause-start
returns-clause-start c = λ bytes has. unless c.answer-2.result
    (fed_start c.args.self.now (reader_with c.take_piece.new.self c.take_piece.new.start.items)
    bytes c.args.piece.now
    c.args.out.now.items c.take_piece.new.out.items has (fed c))

pub returns-clause-entries : goal.returns-clause-entries
returns-clause-entries c = λ bytes has. unless c.answer-2.result
    (fed_entries c.args.self.now (reader_with c.take_piece.new.self c.take_piece.new.start.items)
    bytes c.args.piece.now
    c.args.out.now.items c.take_piece.new.out.items has (fed c))

pub returns-clause-answer : goal.returns-clause-answer
returns-clause-answer c = λ bytes has. unless c.answer-2.result
    (rw (← fed_fault c.args.self.now (reader_with c.take_piece.new.self
    c.take_piece.new.start.items) bytes c.args.piece.now c.args.out.now.items
    c.take_piece.new.out.items has (fed c)) c.answer-2.ensures)
