use Rattle.std.proofs.Common.{◌≡◌, length}
use Rattle.vyrd_run_tests.proofs.relay.send_all.Given as goal

abbrev pub invariant-loop-number : goal.invariant-loop-number
invariant-loop-number g l = (l.sender.queue ≡ l.relay.queue) × (l.sender.caller ≡ 0)
    × (length l.sender.sent ≡ l.number)
