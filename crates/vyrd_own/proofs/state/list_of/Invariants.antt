use Rattle.std.proofs.Common.{◌≡◌, ◌≤◌, ◌+◌, take, length}
use Rattle.vyrd_own.proofs.state.list_of.Given as goal

abbrev pub invariant-loop-item : goal.invariant-loop-item
invariant-loop-item l = (l.list.items ≡ take l.item-index l.items)
    × (length l.items ≤ l.list.room + l.item-index)
