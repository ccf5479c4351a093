use Rattle.vyrd_mover.proofs.Prelude.{◌≡◌, ◌∙◌, ap, sym, true, false, length, ◌==◌, refused}
use Rattle.vyrd_mover.proofs.WalkLaws.{more_after}
use Rattle.vyrd_mover.proofs.lines.finish_ended.Goals as goal

pub returns-then-not-is_empty-clause-refused : goal.returns-then-not-is_empty-clause-refused
returns-then-not-is_empty-clause-refused c = λ r. more_after r c.args.number c.args.rest.now
    (λ e. let h : false ≡ (length c.args.rest.now == 0) = c.if-not-is_empty.ensures in let x : false
    ≡ true = h ∙ ap (λ t. length t == 0) e in cc)
    ∙ ap (refused c.args.number) (sym c.unless_too_many.ensures)
