use Rattle.vyrd_view.proofs.Prelude.{◌≡◌, flat_map, numbers_below, added, place_parts}
use Rattle.vyrd_view.proofs.chain.add_node.Given as goal

abbrev pub invariant-loop-j : goal.invariant-loop-j
invariant-loop-j l = l.sums ≡ added l.initial.sums
    (flat_map (place_parts l.words l.node) (numbers_below l.j))
