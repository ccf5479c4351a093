-- Nothing has changed but what was found, and what was sent.
use Rattle.vyrd_live.proofs.Prelude.{◌≡◌, with_look, HasSent}
use Rattle.vyrd_live.proofs.acting.act.Given as goal

abbrev pub invariant-loop : goal.invariant-loop
invariant-loop g l = record {
  hand : l.hand ≡ with_look l.initial.hand l.hand.look;
  sent : HasSent l.relay l.outbox.sender l.outbox.place l.initial.hand;
}
