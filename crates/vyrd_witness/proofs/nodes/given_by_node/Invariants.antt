use Rattle.vyrd_witness.proofs.Prelude.{◌≡◌, ◌≤◌, ◌*◌, ◌^◌, flat_map, given, numbers_below}
use Rattle.vyrd_witness.proofs.Prelude.{place_parts}
use Rattle.vyrd_witness.proofs.nodes.given_by_node.Given as goal

abbrev pub invariant-loop-j : goal.invariant-loop-j
invariant-loop-j l = record {
  given : l.amount ≡ given l.key (flat_map (place_parts l.words l.node) (numbers_below l.j));
  low : l.amount ≤ l.j * 2 ^ 33;
}
