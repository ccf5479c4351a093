use Rattle.vyrd_live.proofs.Prelude.{◌≡◌, TakesIn, lanes_sent}
use Rattle.vyrd_live.proofs.watch.Watch.take_rest.Given as goal

abbrev pub invariant-loop : goal.invariant-loop
invariant-loop g l = record {
  queue : l.self.receiver.queue ≡ l.relay.queue;
  senders : l.self.receiver.senders ≡ l.fn.self.receiver.senders;
  settled : l.self.receiver.settled ≡ lanes_sent l.fn.outboxes.items;
  takes_in : TakesIn g.S.EventSink.has_taken g.S.EventSink.fixed l.fn.self l.self;
}
