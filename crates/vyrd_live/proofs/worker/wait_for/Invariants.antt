use Rattle.vyrd_live.specs.Sending.{HasSent}
use Rattle.vyrd_live.proofs.worker.wait_for.Given as goal

abbrev pub invariant-loop : goal.invariant-loop
invariant-loop g l = HasSent l.relay l.outbox.sender l.outbox.place l.hand
