use Rattle.vyrd_live.proofs.Prelude.{refl, goes_on_same, goes_on_then}
use Rattle.vyrd_live.proofs.outbox.Outbox.send_rest.Goals as goal

pub loop-init : goal.loop-init
loop-init g c = record {
  sent = c.requires.sent;
  goes_on = goes_on_same g.S.EventSink.has_taken g.S.EventSink.fixed _ _ refl refl refl refl refl;
}

pub loop-preserved : goal.loop-preserved
loop-preserved g c = record {
  sent = c.send.ensures.sent;
  goes_on = goes_on_then g.S.EventSink.has_taken g.S.EventSink.fixed _ _ _ c.loop.invariant.goes_on
      c.take_next.ensures.goes_on;
}
