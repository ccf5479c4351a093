use Rattle.vyrd_live.proofs.Prelude.{◌≡◌, GoesOn}
use Rattle.vyrd_live.proofs.watch.Watch.take_round.Given as goal

-- before the first event all is as it was
abbrev pub invariant-loop-taken : goal.invariant-loop-taken
invariant-loop-taken g l = record {
  first : l.taken ≡ 0 → l.self ≡ l.initial.self;
  goes_on : GoesOn g.S.EventSink.has_taken g.S.EventSink.fixed l.initial.self l.self;
}
