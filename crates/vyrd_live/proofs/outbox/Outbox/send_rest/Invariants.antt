use Rattle.vyrd_live.proofs.Prelude.{HasSent, GoesOn}
use Rattle.vyrd_live.proofs.outbox.Outbox.send_rest.Given as goal

abbrev pub invariant-loop : goal.invariant-loop
invariant-loop g l = record {
  sent : HasSent l.relay l.self.sender l.self.place l.hand;
  goes_on : GoesOn g.S.EventSink.has_taken g.S.EventSink.fixed l.initial.watch l.watch;
}
