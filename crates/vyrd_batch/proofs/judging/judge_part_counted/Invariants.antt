use Rattle.vyrd_batch.proofs.Prelude.{◌≡◌, ◌+◌, ◌≤◌, map, take, bytes_of, verdicts_of, logs_cost}
use Rattle.vyrd_batch.proofs.judging.judge_part_counted.Given as goal

-- the verdicts about the spans before this one, and what their logs cost
abbrev pub invariant-loop-span : goal.invariant-loop-span
invariant-loop-span g l = record {
  verdicts : l.verdicts.items ≡ verdicts_of (map (bytes_of l.bytes) (take l.span-index l.spans));
  steps : l.steps ≤ l.initial.steps
      + logs_cost (map (bytes_of l.bytes) (take l.span-index l.spans));
}
