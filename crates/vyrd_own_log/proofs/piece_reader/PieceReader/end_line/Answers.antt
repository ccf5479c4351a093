use Rattle.vyrd_own_log.proofs.Prelude.{◌++◌, ap, sym, ◌∙◌, kept_of, state_of, texts, own_step}
use Rattle.vyrd_own_log.proofs.Prelude.{lines_of}
use Rattle.vyrd_own_log.proofs.ReadLaws.{line_fed, line_kept, three_ok, any_ok}
use Rattle.vyrd_own_log.proofs.piece_reader.PieceReader.end_line.Goals as goal

pub returns-clause-fed : goal.returns-clause-fed
returns-clause-fed c = three_ok c.put.result
    (λ start entries numbers sound. line_fed (kept_of c.args.self.now) _ c.args.line.now
    c.in_ok-found.found _ _ _ _ sound c.requires.one_line
    (c.in_ok-found.ensures.step
    ∙ ap (λ u. own_step (state_of c.args.self.now.lines) (u ++ c.args.line.now))
    (sym c.requires.begun))
    c.requires.begun (c.in_ok-keep.ensures
    ∙ ap (λ u. texts c.args.self.now.specified.items
    ++ lines_of (u ++ c.args.line.now) c.in_ok-found.found) (sym c.requires.begun)) start entries
    numbers)
    c.put.ensures.start c.put.ensures.entries c.put.ensures.numbers

pub returns-clause-sound : goal.returns-clause-sound
returns-clause-sound c = any_ok c.put.result
    (λ sound. line_kept (kept_of c.args.self.now) _ c.args.line.now c.in_ok-found.found sound
    c.requires.one_line
    (c.in_ok-found.ensures.step
    ∙ ap (λ u. own_step (state_of c.args.self.now.lines) (u ++ c.args.line.now))
    (sym c.requires.begun))
    c.requires.begun)
