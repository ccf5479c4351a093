-- One lane more was sent to its end.
use Rattle.vyrd_live.proofs.Prelude.{◌≡◌, ◌++◌, [], ◌∷◌, List, ap, ◌∙◌, sym, subst, All, map-append}
use Rattle.vyrd_live.proofs.Prelude.{All-rest, All-push, Lane, lane_sent, Stopped, Outbox, HasSent}
use Rattle.vyrd_live.proofs.Prelude.{lanes_sent, lanes_made, goes_on_then}
use Rattle.vyrd_live.proofs.PlayLaws.{Done}
use Rattle.vyrd_live.proofs.SendingLaws.{sent_whole}
use Rattle.vyrd_live.proofs.workers.part_all.Goals as goal

pub loop-one-preserved : goal.loop-one-preserved
loop-one-preserved g c =
    let inv = c.loop-one.invariant in
    let relay = c.args.relay.now in
    let t = c.send_rest.ensures in
    let one : Stopped = c.in-Some.one in
    let o : Outbox = c.send_rest.new.self in
    let sent = λ (d : Done). HasSent relay d.1.sender d.1.place d.0.hand in
    let of = λ (o : Outbox). o.sender.queue ≡ relay.queue in
    let ends = c.in_ok-push.ensures.items in
    let outs = c.in_ok-push-2.ensures.items in
    let whole = sent_whole relay o.sender o.place one.hand t.sent t.all in record {
      later = All-rest sent (c.in-Some.one, c.in-Some.outbox) c.next.new.self.rest.items
          c.loop-one.one-iterator.rest.items c.in-Some.ensures.steps.0 inv.later;
      stopped = ends ∙ ap (λ (xs : List Stopped). xs ++ one ∷ []) inv.stopped
          ∙ sym (map-append (λ (d : Done). d.0) c.loop-one.yielded
          ((c.in-Some.one, c.in-Some.outbox) ∷ []));
      lanes = ap lanes_sent outs ∙ map-append (λ (o : Outbox). lane_sent o.sender)
          c.loop-one.outboxes.items (o ∷ [])
          ∙ ap (λ (xs : List Lane). xs ++ lane_sent o.sender ∷ []) inv.lanes
          ∙ ap (λ (lane : Lane). lanes_made c.loop-one.stopped.items ++ lane ∷ []) whole
          ∙ sym (map-append
          (λ (s : Stopped). record { caller = s.hand.caller; items = s.hand.lane })
          c.loop-one.stopped.items (one ∷ []))
          ∙ sym (ap lanes_made ends);
      senders = subst (All of) (sym outs)
          (All-push of c.loop-one.outboxes.items o inv.senders t.sent.queue);
      goes_on = goes_on_then g.S.EventSink.has_taken g.S.EventSink.fixed _ _ _ inv.goes_on
          t.goes_on;
    }
