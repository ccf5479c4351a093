use Rattle.std.proofs.Common.{drop, arith}
use Rattle.vyrd_follow.proofs.DifferingLaws.{all_passed}
use Rattle.vyrd_follow.proofs.differing.differing.Goals as goal

pub returns : goal.returns
returns c =
    let l = c.loop-turn in
    all_passed (drop l.places.0 c.args.before.now) (drop l.places.1 c.args.after.now)
    l.found.items _ l.invariant.found (omega (arith, l.invariant.left, l))
