use Rattle.vyrd_spec.proofs.Prelude.{◌≡◌, flat_map, added, numbers_below, place_parts}
use Rattle.vyrd_spec.proofs.leaves.add_leaf.Given as goal

abbrev pub invariant-loop-place : goal.invariant-loop-place
invariant-loop-place l = l.values ≡ added l.initial.values
    (flat_map (place_parts l.words l.leaf) (numbers_below l.place))
