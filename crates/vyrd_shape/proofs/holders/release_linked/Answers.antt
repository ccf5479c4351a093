use Rattle.std.proofs.Common.{◌≡◌, ◌-◌, ◌∙◌, refl, sym, subst, set, arith}
use Rattle.vyrd_shape.proofs.ChainLaws.{head_of, linked_ends, linked_none, holder_falls}
use Rattle.vyrd_shape.proofs.ChainLaws.{released_set}
use Rattle.vyrd_shape.proofs.CostLaws.{held_less}
use Rattle.vyrd_shape.proofs.StampLaws.{IsRaising, raising_none, raising_more, raising_all}
use Rattle.vyrd_shape.proofs.holders.release_linked.Goals as goal

pub loop-first-init : goal.loop-first-init
loop-first-init g c = record {
  linked = c.requires.linked;
  same = refl;
  raising = raising_none c.args.holder c.args.stamp c.args.by_word.now c.args.stamps.now;
  steps = refl;
}

pub bounds-by_word-word : goal.bounds-by_word-word
bounds-by_word-word g c = (head_of c.args.holder c.loop-first.by_word c.args.links.now
    c.loop-first.first c.requires.some (omega arith) c.loop-first.invariant.linked).within

pub bounds-links-word : goal.bounds-links-word
bounds-links-word g c =
    let head = head_of c.args.holder c.loop-first.by_word c.args.links.now c.loop-first.first
    c.requires.some
    (omega arith) c.loop-first.invariant.linked in
    omega (arith, head.within)

pub loop-first-smaller : goal.loop-first-smaller
loop-first-smaller g c =
    let head = head_of c.args.holder c.loop-first.by_word c.args.links.now c.loop-first.first
    c.requires.some
    (omega arith) c.loop-first.invariant.linked in
    holder_falls c.loop-first.by_word _ c.args.holder head.held c.requires.some head.within

pub loop-first-preserved : goal.loop-first-preserved
loop-first-preserved g c =
    let l = c.loop-first in
    let a = c.args in
    let head = head_of a.holder l.by_word a.links.now l.first c.requires.some (omega arith)
    l.invariant.linked in
    let released = set l.by_word (l.first - 1) 0 in
    record {
      linked = head.rest;
      same = released_set a.holder l.by_word _ head.held ∙ l.invariant.same;
      raising = subst (IsRaising a.holder a.stamp a.by_word.now a.stamps.now released)
          (sym c.raise.ensures)
          (raising_more a.holder a.stamp a.by_word.now a.stamps.now l.by_word l.stamps (l.first - 1)
          c.requires.some head.within head.held l.invariant.raising);
      steps =
          let less = held_less l.by_word (l.first - 1) a.holder head.within head.held
          c.requires.some in
          omega (arith, less, l.invariant.steps, c.tick.ensures);
    }

pub returns : goal.returns
returns g c =
    let l = c.loop-first in
    let a = c.args in
    let ends : l.first ≡ 0 = omega arith in
    let linked = l.invariant.linked in
    record {
      by_word = sym (linked_ends a.holder l.by_word a.links.now l.first ends linked)
          ∙ l.invariant.same;
      stamps = raising_all a.holder a.stamp a.by_word.now a.stamps.now l.by_word l.stamps
          (linked_none a.holder l.by_word a.links.now l.first ends linked) l.invariant.raising;
      steps = l.invariant.steps;
    }
