use Rattle.vyrd_command.proofs.Prelude.{◌≡◌, ◌-◌, ◌≤◌, false, AfterReads, longest_history}
use Rattle.vyrd_command.proofs.MoversLaws.{ReadSoFar}
use Rattle.vyrd_command.proofs.movers.read_history.Given as goal

abbrev pub invariant-loop-count : goal.invariant-loop-count
invariant-loop-count g l = record {
  few : l.count ≤ longest_history;
  read : ReadSoFar (g.S.Source.known l.fn.source) (g.S.Source.known l.source) l.reader l.count;
  unended : (g.S.Source.known l.source).ended ≡ false;
  source : AfterReads false (g.S.Source.known l.fn.source) (g.S.Source.known l.source);
}

abbrev pub decreases-loop-count : goal.decreases-loop-count
decreases-loop-count g l = longest_history - l.count
