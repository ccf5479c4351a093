use Rattle.std.proofs.Common.{◌≡◌, ℕ, ◌+◌, ◌-◌, ◌^◌, false, None, List}
use Rattle.std.specs.Prelude.{if◌then◌else◌}
use Rattle.vyrd_base.specs.declared.history.Stamped.{Stamped}
use Rattle.vyrd_relay.specs.Numbers.{held, has}
use Rattle.vyrd_verifier.specs.Taken.{IsTaking}
use Rattle.vyrd_verifier.proofs.sequencer.follow.Given as goal

abbrev pub invariant-loop-more : goal.invariant-loop-more
invariant-loop-more g l = record {
  taking : (taken : List Stamped) → IsTaking g.S.EventSink.has_taken l.initial.sink
      l.initial.reorder taken
      → IsTaking g.S.EventSink.has_taken l.sink l.reorder taken;
  had : (n : ℕ) → has l.reorder n ≡ has l.initial.reorder n;
  missing : l.more ≡ false → held l.reorder l.reorder.next ≡ None;
  counted : g.S.EventSink.count l.sink ≡ l.reorder.next;
  fixed : g.S.EventSink.fixed l.sink ≡ g.S.EventSink.fixed l.initial.sink;
}

abbrev pub decreases-loop-more : goal.decreases-loop-more
decreases-loop-more g l = (2 ^ 62 - l.reorder.next) + (if l.more then 1 else 0)
