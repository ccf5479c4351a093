use Rattle.vyrd_follow.proofs.Prelude.{◌≡◌, ◌+◌, ◌≤◌, ◌++◌, length, drop, turns}
use Rattle.vyrd_follow.proofs.differing.differing.Given as goal

abbrev pub invariant-loop-turn : goal.invariant-loop-turn
invariant-loop-turn l = record {
  found : l.found.items ++ turns (drop l.places.0 l.before) (drop l.places.1 l.after)
      ≡ turns l.before l.after;
  left : length (drop l.places.0 l.before) + length (drop l.places.1 l.after) + l._turn
      ≤ length l.before + length l.after;
}
