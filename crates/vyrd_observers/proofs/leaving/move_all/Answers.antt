use Rattle.vyrd_observers.proofs.Prelude.{◌≡◌, Some, None, get_or, slice_get, sym, ap, ◌∙◌, arith}
use Rattle.vyrd_observers.proofs.Prelude.{slice_get-get_or, moved, changed_next, written_back}
use Rattle.vyrd_base.proofs.ChangedLists.{changed_all, unchanged_at}
use Rattle.vyrd_observers.proofs.leaving.move_all.Goals as goal

pub moved-requires : goal.moved-requires
moved-requires g c = λ w is same.
    let old = c.deref_mut-watch-items.result.now in
    let i = c.loop-watch.watch-index in
    let here : get_or old i None ≡ Some w =
    sym (unchanged_at (moved c.args.trail c.args.n) i old None)
    ∙ sym (ap (λ xs. get_or xs i None) c.loop-watch.invariant.moved) ∙ is in
    let kept : slice_get old i ≡ Some (Some w) = slice_get-get_or old i None c.loop-watch-test.true
    ∙ ap Some here in
    c.requires i w (rw c.deref_mut-watch-items.ensures.value at kept) same

pub loop-watch-preserved : goal.loop-watch-preserved
loop-watch-preserved = grind (arith, moved, changed_next)

pub returns-clause-moved : goal.returns-clause-moved
returns-clause-moved = grind (arith, written_back, changed_all, moved)
