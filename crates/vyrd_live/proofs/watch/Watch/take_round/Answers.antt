use Rattle.vyrd_live.proofs.Prelude.{refl, arith, goes_on_same, goes_on_then}
use Rattle.vyrd_live.proofs.watch.Watch.take_round.Goals as goal

pub loop-taken-init : goal.loop-taken-init
loop-taken-init g c = record {
  first = λ _. refl;
  goes_on = goes_on_same g.S.EventSink.has_taken g.S.EventSink.fixed _ _ refl refl refl refl refl;
}

pub loop-taken-preserved : goal.loop-taken-preserved
loop-taken-preserved g c = record {
  first = λ e. absurd (omega (arith, e));
  goes_on = goes_on_then g.S.EventSink.has_taken g.S.EventSink.fixed _ _ _
      c.loop-taken.invariant.goes_on c.take_when_allowed.ensures.goes_on;
}
