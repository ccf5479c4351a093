use Rattle.vyrd_batch.proofs.Prelude.{◌≤◌, ◌+◌, ◌-◌, length, most_logs, logs_from}
use Rattle.vyrd_batch.proofs.LogFacts.{HasFound}
use Rattle.vyrd_batch.proofs.reader.read_logs.Given as goal

-- the logs before this place, and a step at most for each byte before it
abbrev pub invariant-loop-rest : goal.invariant-loop-rest
invariant-loop-rest g l = record {
  found : HasFound (logs_from most_logs 0 l.fn.first l.fn.bytes) (l.fn.first + length l.fn.bytes)
      l.spans.items l.place l.rest;
  steps : l.steps + length l.rest ≤ l.initial.steps + length l.fn.bytes;
}

abbrev pub decreases-loop-rest : goal.decreases-loop-rest
decreases-loop-rest g l = 10000 - length l.spans.items
