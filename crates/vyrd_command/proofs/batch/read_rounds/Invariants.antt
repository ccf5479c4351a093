use Rattle.vyrd_command.proofs.Prelude.{◌≡◌, ◌-◌, ◌≤◌, false, AfterReads, longest_batch_input}
use Rattle.vyrd_command.proofs.Prelude.{IsReading, IsPaidRound}
use Rattle.vyrd_command.proofs.batch.read_rounds.Given as goal

-- what is read so far, and judged
abbrev pub invariant-loop-count : goal.invariant-loop-count
invariant-loop-count g l = record {
  reading : IsReading (g.S.Source.known l.fn.source) (g.S.Source.known l.source) l.judge
      l.bytes.items l.count;
  few : l.count ≤ longest_batch_input;
  unended : (g.S.Source.known l.source).ended ≡ false;
  source : AfterReads false (g.S.Source.known l.fn.source) (g.S.Source.known l.source);
  paid : IsPaidRound l.judge l.bytes.items l.next l.initial.steps l.steps l.count;
}

abbrev pub decreases-loop-count : goal.decreases-loop-count
decreases-loop-count g l = longest_batch_input - l.count
