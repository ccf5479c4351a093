use Rattle.std.proofs.Common.{◌≡◌, ◌++◌}
use Rattle.vyrd_table.proofs.rest.Rest.pairs.Given as goal

abbrev pub invariant-loop-key : goal.invariant-loop-key
invariant-loop-key g l =
    (goal.iterator-loop-key g).can_next l.key-iterator ×
    (goal.iterator-loop-key g).is_finite l.key-iterator ×
    (l.pairs.items ++ l.key-iterator ≡ l.self.map.entries)
