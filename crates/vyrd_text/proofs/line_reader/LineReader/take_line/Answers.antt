use Rattle.vyrd_text.proofs.Prelude.{ap, sym, ◌∙◌, refl, LineState, starts_of, entries_of, state_of}
use Rattle.vyrd_text.proofs.ReaderLaws.{line_at_once, line_then}
use Rattle.vyrd_text.proofs.line_reader.LineReader.take_line.Goals as goal

pub returns-then-is_empty : goal.returns-then-is_empty
returns-then-is_empty c =
    line_at_once c.args.self.now c.end_line.new.self c.args.line.now (starts_of c.end_line.result)
    (entries_of c.end_line.result)
    (ap (λ (s : LineState). s.unfinished) (sym c.self.view_is) ∙ c.if-is_empty.ensures.0 refl)
    c.end_line.ensures

pub returns : goal.returns
returns c =
    let same = c.as_slice.ensures.bytes ∙ c.replace-whole.ensures.value in
    line_then c.args.self.now (state_of c.self-2.inside) c.end_line-2.new.self c.args.line.now
    (starts_of c.end_line-2.result) (entries_of c.end_line-2.result)
    (rw c.self-2.view_is c.take_unfinished.ensures)
    (rw (← same) c.end_line-2.ensures)
