use Rattle.vyrd_live.proofs.Prelude.{◌≡◌, HasSent}
use Rattle.vyrd_live.proofs.outbox.Outbox.empty.Given as goal

-- the hand has forgotten nothing yet
abbrev pub invariant-loop : goal.invariant-loop
invariant-loop g l = record {
  hand : l.hand ≡ l.initial.hand;
  sent : HasSent l.relay l.self.sender l.self.place l.hand;
}
