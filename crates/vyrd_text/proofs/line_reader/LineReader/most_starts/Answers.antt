use Rattle.vyrd_text.proofs.Prelude.{arith, LineState, state_of}
use Rattle.vyrd_text.proofs.ReaderLaws.{none_of, some_of}
use Rattle.vyrd_text.proofs.AheadLaws.{ahead_first, ahead_begun}
use Rattle.vyrd_text.proofs.line_reader.LineReader.most_starts.Goals as goal

pub returns-then-is_none-clause-most : goal.returns-then-is_none-clause-most
returns-then-is_none-clause-most c =
    let r : LineState = state_of c.self.inside in
    let within = ahead_first r.fault r.header r.starting r.unfinished c.args.piece.now
    (none_of c.self.inside.header c.if-is_none.ensures)
    c.self.invariant.one_line in
    rw (← c.self.view_is)
    (omega (arith, within, c.count_later_starts.ensures.count))

pub returns-clause-most : goal.returns-clause-most
returns-clause-most c =
    let r : LineState = state_of c.self.inside in
    let header = some_of c.self.inside.header c.if-is_none.ensures in
    let within = ahead_begun r.fault r.header header.0 r.starting r.unfinished c.args.piece.now
    header.1 c.self.invariant.one_line in
    rw (← c.self.view_is)
    (omega (arith, within, c.count_later_starts-2.ensures.count))
