use Rattle.std.proofs.Common.{◌≤◌, ◌+◌, ◌*◌}
use Rattle.vyrd_log_tests.proofs.judge.a_commit_costs_what_it_changed.Given as goal

-- an insert is seven entries
abbrev pub invariant-loop-x : goal.invariant-loop-x
invariant-loop-x g l = l.judge.kept.entries ≤ 7 * l.x

-- and a delete five
abbrev pub invariant-loop : goal.invariant-loop
invariant-loop g l = l.judge.kept.entries ≤ 28672 + 12 * l.counter
