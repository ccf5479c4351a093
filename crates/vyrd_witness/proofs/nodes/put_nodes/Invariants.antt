use Rattle.std.proofs.Common.{◌≡◌, ◌-◌, ◌<◌, length}
use Rattle.vyrd_witness.proofs.NodeLaws.{NodeWalk}
use Rattle.vyrd_witness.proofs.nodes.put_nodes.Given as goal

abbrev pub invariant-loop-turn : goal.invariant-loop-turn
invariant-loop-turn l = record {
  walk : NodeWalk l.size l.words l.key l.fn.parts.items l.parts.items l.seen.items
      (l.size - l._turn) l.node;
  flags : length l.seen.items ≡ l.size;
  within : l.node < l.size;
}
