use Rattle.vyrd_command.proofs.Prelude.{◌≡◌, ◌-◌, ◌≤◌, false, AfterReads, longest_explained}
use Rattle.vyrd_command.proofs.ExplainLaws.{TakenSoFar}
use Rattle.vyrd_command.proofs.explain.take_log.Given as goal

-- what was taken so far
abbrev pub invariant-loop-count : goal.invariant-loop-count
invariant-loop-count g l = record {
  few : l.count ≤ longest_explained l.fn.max_lines;
  taken : TakenSoFar l.fn.max_lines (g.S.Source.known l.fn.source) (g.S.Source.known l.source)
      l.explainer l.count;
  unended : (g.S.Source.known l.source).ended ≡ false;
  source : AfterReads false (g.S.Source.known l.fn.source) (g.S.Source.known l.source);
}

abbrev pub decreases-loop-count : goal.decreases-loop-count
decreases-loop-count g l = longest_explained l.fn.max_lines - l.count
