use Rattle.std.proofs.Common.{◌≡◌}
use Rattle.vyrd_table.proofs.FirstLaws.{first_in}
use Rattle.vyrd_table.proofs.rest.Rest.first_marked.Given as goal

abbrev pub invariant-loop-key : goal.invariant-loop-key
invariant-loop-key g l =
    (goal.iterator-loop-key g).can_next l.key-iterator ×
    (goal.iterator-loop-key g).is_finite l.key-iterator ×
    (first_in g.V.Marked.is_marked l.key-iterator
    ≡ first_in g.V.Marked.is_marked l.self.map.entries)
