use Rattle.std.proofs.Common.{◌≡◌, ◌++◌}
use Rattle.vyrd_base.proofs.amount_map.AmountMap.view.Given as goal

abbrev pub invariant-loop-key : goal.invariant-loop-key
invariant-loop-key l =
    (goal.iterator-loop-key).can_next l.key-iterator ×
    (goal.iterator-loop-key).is_finite l.key-iterator ×
    (l.view ++ l.key-iterator ≡ l.self)
