use Rattle.std.proofs.Common.{◌≡◌, ◌<◌, vec_len, vec_capacity}
use Rattle.crossbeam_queue.specs.Passes.{view, IsSamePass}
use Rattle.vyrd_relay.specs.declared.known.Known.TheVariants.{Receives}
use Rattle.vyrd_relay.specs.Knowledge.{new_received, received_in}
use Rattle.vyrd_relay.specs.Ends.{AreNew}
use Rattle.vyrd_relay.proofs.relay.deal_all.Given as goal

abbrev pub invariant-loop : goal.invariant-loop
invariant-loop g l = record {
  same : IsSamePass l.initial.pass l.pass;
  receives : view l.pass
      ≡ Receives (new_received (received_in (view l.pass)).senders (vec_len l.ends));
  fixed : 0 < vec_len l.ends → (received_in (view l.pass)).senders ≡ l.senders;
  count : vec_len l.ends ≡ l.counter;
  room : vec_capacity l.ends ≡ vec_capacity l.initial.ends;
  new : AreNew l.queue.table.shared.table_id l.senders 0 l.ends.items;
}
