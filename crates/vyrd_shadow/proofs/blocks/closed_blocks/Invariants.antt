use Rattle.vyrd_shadow.proofs.Prelude.{◌≡◌, None, replicate}
use Rattle.vyrd_shadow.proofs.blocks.closed_blocks.Given as goal

abbrev pub invariant-loop : goal.invariant-loop
invariant-loop l = l.blocks.items ≡ replicate l.counter None
