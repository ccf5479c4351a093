use Rattle.std.proofs.Common.{◌≡◌}
use Rattle.vyrd_run_tests.proofs.relay.send.Given as goal

abbrev pub invariant-loop : goal.invariant-loop
invariant-loop g l = l.sender ≡ l.initial.sender
