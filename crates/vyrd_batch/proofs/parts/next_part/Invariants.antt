use Rattle.std.proofs.Common.{◌≡◌, ◌+◌}
use Rattle.vyrd_batch.proofs.parts.next_part.Given as goal

-- a step for each span before this one
abbrev pub invariant-loop-before : goal.invariant-loop-before
invariant-loop-before g l = l.steps ≡ l.initial.steps + l.before
