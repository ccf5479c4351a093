use Rattle.vyrd_table.proofs.Prelude.{take, IsFirst, entries_in}
use Rattle.vyrd_table.proofs.places.Places.first_marked.Given as goal

abbrev pub invariant-loop-pair : goal.invariant-loop-pair
invariant-loop-pair g l = IsFirst g.V.Value.nothing g.V.Marked.is_marked
    (entries_in g.V.Value.is_nothing (take l.pair-index l.pair-items) l.self.rest.map.entries)
    l.first
