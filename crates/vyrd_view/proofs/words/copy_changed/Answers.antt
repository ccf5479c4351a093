use Rattle.vyrd_view.proofs.Prelude.{ap, sym, arith, ◌==◌, list_any, ext_get_or, drop_all}
use Rattle.vyrd_view.proofs.words.copy_changed.Goals as goal

pub returns : goal.returns
returns c = ext_get_or 0 c.loop-word.before c.args.words.now c.loop-word.invariant.count
    (λ w low. sym (c.loop-word.invariant.elsewhere w
    (ap (list_any (λ x. x == w))
    (drop_all c.loop-word.word-index c.args.changed.now (omega arith)))))
