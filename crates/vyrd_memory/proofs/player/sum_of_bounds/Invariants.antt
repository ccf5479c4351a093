use Rattle.vyrd_memory.proofs.Prelude.{◌≡◌, ◌≤◌, ◌*◌, take, bounds_of, most_op_events}
use Rattle.vyrd_memory.proofs.player.sum_of_bounds.Given as goal

-- the sum of those before
abbrev pub invariant-loop-op : goal.invariant-loop-op
invariant-loop-op l = (l.sum ≡ bounds_of l.header (take l.op-index l.ops))
    × (l.sum ≤ l.op-index * most_op_events)
