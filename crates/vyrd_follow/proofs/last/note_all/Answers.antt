use Rattle.vyrd_follow.proofs.Prelude.{◌++◌, ap, get_or, map, set, ◌∙◌, sym, Called, placed_at}
use Rattle.vyrd_follow.proofs.Prelude.{last_of, last_item}
use Rattle.vyrd_follow.proofs.LastLaws.{one_more_set, here_still}
use Rattle.vyrd_follow.proofs.last.note_all.Goals as goal

pub loop-i-preserved : goal.loop-i-preserved
loop-i-preserved c = record {
  count = c.loop-i.invariant.count;
  last = λ before is.
      let i = c.loop-i.i in
      let items = c.args.items.now in
      let after = before ++ map (placed_at c.args.at) c.args.done.now in
      let so = c.loop-i.invariant.last before is in
      let there = c.index.ensures ∙ ap (λ xs. get_or xs i c.index.result.now) so
      ∙ here_still (last_item before) (last_item after) items i (Called 0)
      c.index.result.now c.loop-i-test.true
      ∙ ap (last_of before) (sym c.told_by.ensures) in
      let next = c.noted.ensures before there ∙ ap (last_of after) c.told_by.ensures in
      (λ j. set (so j) i (next j))
      ∙ one_more_set (last_item before) (last_item after) items i (Called 0) c.loop-i-test.true;
}
