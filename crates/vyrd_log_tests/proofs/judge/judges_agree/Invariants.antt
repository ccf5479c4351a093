use Rattle.std.proofs.Common.{◌≤◌}
use Rattle.vyrd_log_tests.proofs.judge.judges_agree.Given as goal

-- each entry counts once
abbrev pub invariant-loop-i : goal.invariant-loop-i
invariant-loop-i g l = l.judge.kept.entries ≤ l.i
