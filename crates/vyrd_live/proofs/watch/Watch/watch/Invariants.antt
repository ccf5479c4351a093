use Rattle.vyrd_live.specs.Beside.{GoesOn}
use Rattle.vyrd_live.proofs.watch.Watch.watch.Given as goal

abbrev pub invariant-loop : goal.invariant-loop
invariant-loop g l = GoesOn g.S.EventSink.has_taken g.S.EventSink.fixed l.initial.self l.self
