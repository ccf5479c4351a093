use Rattle.vyrd_mover.proofs.Prelude.{◌∙◌, ◌++◌, sym, HasRead, ReaderState}
use Rattle.vyrd_mover.proofs.LinesLaws.{still_at_fault}
use Rattle.vyrd_mover.proofs.ReaderLaws.{nothing_unfinished, fed_line, fed_all}
use Rattle.vyrd_mover.proofs.FrontLaws.{fed_then}
use Rattle.vyrd_mover.proofs.reader.HistoryReader.feed.Goals as goal

pub returns-then-is_at_fault : goal.returns-then-is_at_fault
returns-then-is_at_fault c = λ before read.
    let here = c.self.inside in
    let piece = c.args.piece.now in
    let s : ReaderState = record { lines = here.lines; unfinished = here.unfinished } in
    let had : HasRead s before = rw c.self.view_is read in
    rw c.clear.ensures
    (nothing_unfinished here.lines s before piece had
    (still_at_fault here.lines had.whole (here.unfinished ++ piece)
    (sym c.is_at_fault.ensures ∙ c.if-is_at_fault.true) had.at))

pub loop-line-init : goal.loop-line-init
loop-line-init c = λ bytes read. c.take_events-rest.ensures.fed bytes read

pub loop-line-preserved : goal.loop-line-preserved
loop-line-preserved c = λ bytes read.
    let piece = c.args.piece.now in
    let next = c.in-Some.next.now in
    let fed = c.loop-line.invariant bytes read in
    let line = fed_line c.loop-line.self c.end_line.new.self bytes piece c.loop-line.rest.now
    c.in-Some.line.now next fed c.in-Some.ensures.1 (c.end_line.ensures _ fed.read) in
    fed_then c.end_line.new.self c.take_events-rest-in-Some.new.self bytes piece next
    c.take_events-rest-in-Some.result.now line (c.take_events-rest-in-Some.ensures.fed _ line.read)

pub returns : goal.returns
returns c = λ bytes read.
    let fed = c.loop-line.invariant bytes read in
    fed_all c.loop-line.self c.put.new.self bytes c.args.piece.now c.loop-line.rest.now fed
    (c.put.ensures _ fed.read)
