use Rattle.vyrd_table.proofs.Prelude.{◌≡◌, take, entries_in}
use Rattle.vyrd_table.proofs.rest.Rest.take_all.Given as goal

abbrev pub invariant-loop-pair : goal.invariant-loop-pair
invariant-loop-pair g l =
    l.self.map.entries
    ≡ entries_in g.V.Value.is_nothing (take l.pair-index l.pairs) l.fn.self.map.entries
