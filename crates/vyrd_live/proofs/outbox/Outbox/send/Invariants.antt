use Rattle.vyrd_live.proofs.Prelude.{◌-◌, HasSent}
use Rattle.vyrd_live.proofs.outbox.Outbox.send.Given as goal

abbrev pub invariant-loop-self : goal.invariant-loop-self
invariant-loop-self g l = HasSent l.relay l.self.sender l.self.place l.hand

abbrev pub decreases-loop-self : goal.decreases-loop-self
decreases-loop-self g l = l.made - l.self.place
