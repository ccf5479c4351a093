use Rattle.vyrd_follow.proofs.Prelude.{◌≡◌, ◌-◌, ◌<◌, length, Walks}
use Rattle.vyrd_follow.proofs.leaves.mark.Given as goal

abbrev pub invariant-loop-turn : goal.invariant-loop-turn
invariant-loop-turn l = record {
  walk : Walks (length l.fn.marks) l.words l.marks (length l.fn.marks - l._turn) l.node;
  count : length l.marks ≡ length l.fn.marks;
  within : l.node < length l.fn.marks;
}
