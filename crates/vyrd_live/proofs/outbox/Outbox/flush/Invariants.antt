use Rattle.vyrd_live.specs.Sending.{HasSent}
use Rattle.vyrd_live.proofs.outbox.Outbox.flush.Given as goal

abbrev pub invariant-loop : goal.invariant-loop
invariant-loop g l = HasSent l.relay l.self.sender l.self.place l.hand
