use Rattle.vyrd_table.specs.Moving.{HaveCome}
use Rattle.vyrd_table.proofs.places.Places.take_all.Given as goal

abbrev pub invariant-loop-pair : goal.invariant-loop-pair
invariant-loop-pair g l =
    HaveCome g.V.Value.nothing g.V.Value.is_nothing l.fn.self l.pairs l.pair-index l.self l.fn.steps
    l.steps
