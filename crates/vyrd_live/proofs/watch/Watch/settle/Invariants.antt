use Rattle.vyrd_live.proofs.Prelude.{◌≡◌, All, lanes_sent}
use Rattle.vyrd_live.proofs.watch.Watch.settle.Given as goal

abbrev pub invariant-loop-outbox : goal.invariant-loop-outbox
invariant-loop-outbox g l = record {
  left : All (λ o. o.sender.queue ≡ l.relay.queue) l.outbox-iterator.rest.items;
  queue : l.self.receiver.queue ≡ l.initial.self.receiver.queue;
  senders : l.self.receiver.senders ≡ l.initial.self.receiver.senders;
  had : l.self.receiver.had ≡ l.initial.self.receiver.had;
  rest : (l.self.stands ≡ l.initial.self.stands) × (l.self.sequencer ≡ l.initial.self.sequencer)
      × (l.self.callers ≡ l.initial.self.callers) × (l.self.taken ≡ l.initial.self.taken);
  settled : l.self.receiver.settled ≡ lanes_sent l.yielded;
}
