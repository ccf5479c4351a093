-- The lanes of the workers so far were sent whole.
use Rattle.vyrd_live.proofs.Prelude.{◌≡◌, map, All, HasSent, GoesOn, lanes_sent, lanes_made}
use Rattle.vyrd_live.proofs.workers.part_all.Given as goal

abbrev pub invariant-loop-one : goal.invariant-loop-one
invariant-loop-one g l = record {
  later : All (λ d. HasSent l.relay d.1.sender d.1.place d.0.hand) l.one-iterator.rest.items;
  stopped : l.stopped.items ≡ map (λ d. d.0) l.yielded;
  lanes : lanes_sent l.outboxes.items ≡ lanes_made l.stopped.items;
  senders : All (λ o. o.sender.queue ≡ l.relay.queue) l.outboxes.items;
  goes_on : GoesOn g.S.EventSink.has_taken g.S.EventSink.fixed l.initial.watch l.watch;
}
