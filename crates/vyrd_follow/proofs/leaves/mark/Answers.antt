use Rattle.std.proofs.Common.{◌≡◌, ◌+◌, ◌-◌, true, false, length, length-set, get_or, set, refl}
use Rattle.std.proofs.Common.{subst, sym, ◌∙◌, arith}
use Rattle.vyrd_base.specs.Tree.{right_of}
use Rattle.vyrd_view.proofs.ChainLaws.{unseen_within}
use Rattle.vyrd_view.proofs.WalkLaws.{Walks, walks_begin, walks_left, walk_over, walk_stops}
use Rattle.vyrd_view.proofs.WalkLaws.{walk_breaks_off, walk_on}
use Rattle.vyrd_follow.proofs.leaves.mark.Goals as goal

pub loop-turn-init : goal.loop-turn-init
loop-turn-init c = record {
  walk = walks_begin (length c.args.marks.now) c.args.words.now c.args.marks.now
      (length c.args.marks.now - 0) (omega arith) c.requires.none;
  count = refl;
  within = c.requires.some;
}

pub returns-then-right-eq0-clause-marks : goal.returns-then-right-eq0-clause-marks
returns-then-right-eq0-clause-marks c =
    let size = length c.args.marks.now in
    let turn = c.loop-turn._turn in
    let node = c.loop-turn.node in
    let walk = walks_left size c.args.words.now c.loop-turn.marks turn node (omega arith)
    c.loop-turn.invariant.walk in
    walk_stops size c.args.words.now c.loop-turn.marks (size - (turn + 1)) node
    c.loop-turn.invariant.count walk (omega arith) c.if-right-eq0.true

pub returns-then-is_seen-clause-marks : goal.returns-then-is_seen-clause-marks
returns-then-is_seen-clause-marks c =
    let size = length c.args.marks.now in
    let turn = c.loop-turn._turn in
    let node = c.loop-turn.node in
    let walk = walks_left size c.args.words.now c.loop-turn.marks turn node (omega arith)
    c.loop-turn.invariant.walk in
    walk_breaks_off size c.args.words.now c.loop-turn.marks (size - (turn + 1)) node
    c.loop-turn.invariant.count walk (omega arith) c.if-right-eq0.false
    (sym c.is_seen.ensures ∙ c.if-is_seen.true)

pub loop-turn-preserved : goal.loop-turn-preserved
loop-turn-preserved c =
    let size = length c.args.marks.now in
    let turn = c.loop-turn._turn in
    let node = c.loop-turn.node in
    let flags = set c.loop-turn.marks node true in
    let right = right_of c.args.words.now node in
    let new : get_or flags right true ≡ false = sym c.is_seen.ensures ∙ c.if-is_seen.false in
    let walk = walks_left size c.args.words.now c.loop-turn.marks turn node (omega arith)
    c.loop-turn.invariant.walk in
    record {
      walk = walk_on size c.args.words.now c.loop-turn.marks (size - (turn + 1)) node walk
          (omega arith) c.if-right-eq0.false new;
      count = length-set c.loop-turn.marks node true ∙ c.loop-turn.invariant.count;
      within = omega (
        arith,
        unseen_within flags right new,
        length-set c.loop-turn.marks node true,
        c.loop-turn.invariant.count,
      );
    }

pub returns-clause-marks : goal.returns-clause-marks
returns-clause-marks c =
    let size = length c.args.marks.now in
    let none : size - c.loop-turn._turn ≡ 0 = omega arith in
    walk_over size c.args.words.now c.loop-turn.marks c.loop-turn.node c.loop-turn.invariant.count
    (subst (λ left. Walks size c.args.words.now c.loop-turn.marks left c.loop-turn.node) none
    c.loop-turn.invariant.walk)
