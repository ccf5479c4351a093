use Rattle.vyrd_mover.proofs.Prelude.{◌≡◌, replicate, unused}
use Rattle.vyrd_mover.proofs.uses.unused_cells.Given as goal

abbrev pub invariant-loop : goal.invariant-loop
invariant-loop l = l.cells.items ≡ replicate l.counter unused
