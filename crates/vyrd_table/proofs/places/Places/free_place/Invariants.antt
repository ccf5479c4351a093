use Rattle.std.proofs.Common.{◌≡◌, ◌+◌}
use Rattle.vyrd_table.proofs.places.Places.free_place.Given as goal

abbrev pub invariant-loop-i : goal.invariant-loop-i
invariant-loop-i g l = l.steps + l.first ≡ l.fn.steps + l.i
