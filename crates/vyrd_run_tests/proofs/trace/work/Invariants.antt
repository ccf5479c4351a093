use Rattle.std.proofs.Common.{◌≡◌, ◌+◌, ◌*◌}
use Rattle.vyrd_trace.specs.Hands.{IsOf}
use Rattle.vyrd_run_tests.proofs.trace.work.Given as goal

abbrev pub invariant-loop-i : goal.invariant-loop-i
invariant-loop-i g l = IsOf l.fn.traced l.hand × (l.hand.spare + 2 * l.i ≡ l.initial.hand.spare)
    × (l.hand.caller ≡ l.initial.hand.caller)
    × (l.hand.forgotten ≡ l.initial.hand.forgotten)
