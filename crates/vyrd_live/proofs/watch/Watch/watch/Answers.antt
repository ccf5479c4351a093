use Rattle.vyrd_live.proofs.Prelude.{refl, goes_on_same, goes_on_then}
use Rattle.vyrd_live.proofs.watch.Watch.watch.Goals as goal

pub loop-init : goal.loop-init
loop-init g c = goes_on_same g.S.EventSink.has_taken g.S.EventSink.fixed _ _ refl refl refl refl
    refl

pub loop-preserved : goal.loop-preserved
loop-preserved g c = goes_on_then g.S.EventSink.has_taken g.S.EventSink.fixed _ _ _ c.loop.invariant
    c.take_round-came.ensures.goes_on
