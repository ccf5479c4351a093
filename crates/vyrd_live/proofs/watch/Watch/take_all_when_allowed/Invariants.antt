use Rattle.vyrd_live.proofs.Prelude.{take, HasTakenAll}
use Rattle.vyrd_live.proofs.watch.Watch.take_all_when_allowed.Given as goal

abbrev pub invariant-loop-event : goal.invariant-loop-event
invariant-loop-event g l = HasTakenAll g.S.EventSink.has_taken g.S.EventSink.fixed l.initial.self
    l.self (take l.event-index l.fn.events)
