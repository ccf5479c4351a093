use Rattle.vyrd_batch.proofs.Prelude.{◌≡◌, ◌≤◌, ◌+◌, ◌*◌, ◌++◌, length, flat_map}
use Rattle.vyrd_batch.proofs.parts.parts_of.Given as goal

-- the parts so far and what is left are all spans
abbrev pub invariant-loop-rest : goal.invariant-loop-rest
invariant-loop-rest g l = record {
  all : flat_map (λ part. part.now) l.parts.items ++ l.rest ≡ l.fn.spans;
  few : length l.parts.items + length l.rest ≤ length l.fn.spans;
  steps : l.steps + 2 * length l.rest ≤ l.initial.steps + 2 * length l.fn.spans;
}

abbrev pub decreases-loop-rest : goal.decreases-loop-rest
decreases-loop-rest g l = length l.rest
