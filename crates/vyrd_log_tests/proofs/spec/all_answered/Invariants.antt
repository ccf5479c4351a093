use Rattle.std.proofs.Common.{◌≡◌, ◌≤◌}
use Rattle.vyrd_base.specs.Rules.{rules_by}
use Rattle.vyrd_log_tests.proofs.spec.all_answered.Given as goal

-- each answer makes one step at most
abbrev pub invariant-loop-one : goal.invariant-loop-one
invariant-loop-one g l = record {
  header : (rules_by (g.S.Spec.charter l.spec)).header ≡ l.header;
  few : g.S.Spec.made l.spec ≤ l.one-index;
}
