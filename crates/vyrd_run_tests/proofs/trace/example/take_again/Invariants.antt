use Rattle.std.proofs.Common.{◌≡◌}
use Rattle.vyrd_trace.specs.Hands.{with_look}
use Rattle.vyrd_run_tests.proofs.trace.example.take_again.Given as goal

abbrev pub invariant-loop : goal.invariant-loop
invariant-loop g l = l.hand ≡ with_look l.initial.hand l.hand.look
