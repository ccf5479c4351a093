use Rattle.vyrd_live.proofs.Prelude.{◌∙◌, takes_in_then}
use Rattle.vyrd_live.proofs.watch.Watch.take_rest.Goals as goal

pub loop-preserved : goal.loop-preserved
loop-preserved g c =
    let inv = c.loop.invariant in
    let t = c.take_next.ensures.goes_on in record {
      queue = t.same.queue ∙ inv.queue;
      senders = t.same.senders ∙ inv.senders;
      settled = t.same.settled ∙ inv.settled;
      takes_in = takes_in_then g.S.EventSink.has_taken g.S.EventSink.fixed _ _ _ inv.takes_in
          t.takes_in;
    }
