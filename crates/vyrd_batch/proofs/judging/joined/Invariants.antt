use Rattle.vyrd_batch.proofs.Prelude.{◌≡◌, ◌≤◌, ◌+◌, take, length, flat_map}
use Rattle.vyrd_batch.proofs.judging.joined.Given as goal

-- the verdicts of the parts before this one
abbrev pub invariant-loop-part : goal.invariant-loop-part
invariant-loop-part g l = record {
  all : l.verdicts.items ≡ flat_map (λ part. part.items) (take l.part-index l.judged);
  steps : l.steps ≤ l.initial.steps + l.part-index + length l.verdicts.items;
}
