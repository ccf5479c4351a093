use Rattle.vyrd_spec.proofs.NeighbourLaws.{HaveTold}
use Rattle.vyrd_spec.proofs.neighbours.left_neighbours.Given as goal

abbrev pub invariant-loop-node : goal.invariant-loop-node
invariant-loop-node l = HaveTold l.last l.words l.node l.lefts.items
