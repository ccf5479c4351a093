use Rattle.std.proofs.Common.{◌≡◌}
use Rattle.vyrd_run_tests.proofs.relay.receive_all.Given as goal

abbrev pub invariant-loop-number : goal.invariant-loop-number
invariant-loop-number g l = l.receiver.queue ≡ l.relay.queue
