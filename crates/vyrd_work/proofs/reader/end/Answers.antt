use Rattle.vyrd_work.proofs.Prelude.{◌≡◌, ◌∙◌, ap, true, false, length, ◌==◌}
use Rattle.vyrd_work.proofs.WalkLaws.{more_after}
use Rattle.vyrd_work.proofs.reader.end.Goals as goal

pub returns-clause-err : goal.returns-clause-err
returns-clause-err c = λ w. more_after w c.args.number c.args.rest.now
    (λ e. let h : false ≡ (length c.args.rest.now == 0) = c.if-is_empty.ensures in let x : false
    ≡ true = h ∙ ap (λ t. length t == 0) e in cc)
