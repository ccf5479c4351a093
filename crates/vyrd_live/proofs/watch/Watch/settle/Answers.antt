-- One sender more is taken in.
use Rattle.vyrd_live.proofs.Prelude.{◌≡◌, ◌++◌, [], ◌∷◌, List, refl, ap, ◌∙◌, sym, rules}
use Rattle.vyrd_live.proofs.Prelude.{map-append, All-rest, Lane, ReceiverView, lane_sent, Outbox}
use Rattle.vyrd_live.proofs.watch.Watch.settle.Goals as goal

pub loop-outbox-init : goal.loop-outbox-init
loop-outbox-init g c = record {
  left = search rules;
  queue = refl;
  senders = refl;
  had = refl;
  rest = (refl, refl, refl, refl);
  settled = c.requires.first;
}

pub loop-outbox-preserved : goal.loop-outbox-preserved
loop-outbox-preserved g c =
    let inv = c.loop-outbox.invariant in
    let s = c.settle.ensures.settled in
    let o = c.in-Some.outbox in
    let lane : Lane = lane_sent o.sender in record {
      left = All-rest (λ (x : Outbox). x.sender.queue ≡ c.args.relay.now.queue) o
          c.next.new.self.rest.items c.loop-outbox.outbox-iterator.rest.items
          c.in-Some.ensures.steps.0 inv.left;
      queue = ap (λ (r : ReceiverView). r.queue) s ∙ inv.queue;
      senders = ap (λ (r : ReceiverView). r.senders) s ∙ inv.senders;
      had = ap (λ (r : ReceiverView). r.had) s ∙ inv.had;
      rest = inv.rest;
      settled = ap (λ (r : ReceiverView). r.settled) s
          ∙ ap (λ (ls : List Lane). ls ++ lane ∷ []) inv.settled
          ∙ sym (map-append (λ (x : Outbox). lane_sent x.sender) c.loop-outbox.yielded (o ∷ []));
    }
