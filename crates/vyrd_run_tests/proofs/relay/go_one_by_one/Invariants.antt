use Rattle.std.proofs.Common.{◌≡◌, ◌*◌, ◌≤◌, length}
use Rattle.vyrd_run_tests.proofs.relay.go_one_by_one.Given as goal

abbrev pub invariant-loop-number : goal.invariant-loop-number
invariant-loop-number g l = (l.sender.queue ≡ l.relay.queue) × (l.sender.caller ≡ 0)
    × (l.receiver.queue ≡ l.relay.queue) × (length l.sender.sent ≤ 33 * l.number)
