use Rattle.vyrd_own_log.proofs.Prelude.{[], ◌++◌, ap, sym, refl, ◌∙◌, append-nil, kept_of, state_of}
use Rattle.vyrd_own_log.proofs.Prelude.{texts, own_step, lines_of}
use Rattle.vyrd_own_log.proofs.ReadLaws.{line_fed, line_kept, three_ok, any_ok}
use Rattle.vyrd_own_log.proofs.piece_reader.PieceReader.end_unfinished.Goals as goal

pub returns-clause-fed : goal.returns-clause-fed
returns-clause-fed c = three_ok c.put.result
    (λ start entries numbers sound. line_fed (kept_of c.args.self.now) _
    [] c.in_ok-found.found _ _ _ _ sound refl
    (c.in_ok-found.ensures.step ∙ ap (own_step (state_of c.args.self.now.lines))
    (c.deref.ensures.value ∙ sym (append-nil c.args.self.now.unfinished.items)))
    c.clear.ensures.items (c.in_ok-keep.ensures
    ∙ ap (λ t. texts c.args.self.now.specified.items ++ lines_of t c.in_ok-found.found)
    (c.deref-2.ensures.value ∙ sym (append-nil c.args.self.now.unfinished.items))) start entries
    numbers)
    c.put.ensures.start c.put.ensures.entries c.put.ensures.numbers

pub returns-clause-sound : goal.returns-clause-sound
returns-clause-sound c = any_ok c.put.result
    (λ sound. line_kept (kept_of c.args.self.now) _ [] c.in_ok-found.found sound refl
    (c.in_ok-found.ensures.step ∙ ap (own_step (state_of c.args.self.now.lines))
    (c.deref.ensures.value ∙ sym (append-nil c.args.self.now.unfinished.items)))
    c.clear.ensures.items)
