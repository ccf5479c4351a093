use Rattle.vyrd_memory.proofs.Prelude.{◌≡◌, ◌+◌, ◌≤◌, replicate, total, HasShown, stage}
use Rattle.vyrd_memory.proofs.turns.repeat.Given as goal

-- this many turns were taken
abbrev pub invariant-loop-time : goal.invariant-loop-time
invariant-loop-time g l = record {
  shown : HasShown l.header g.M.Machine.header_of g.M.Machine.script g.S.EventSink.has_taken
      (replicate l._time l.turns.caller)
      (stage l.initial.machines l.initial.words.items l.initial.sink)
      (stage l.machines l.words.items l.sink);
  few : g.S.EventSink.count l.sink + total g.M.Machine.ahead l.machines
      ≤ g.S.EventSink.count l.initial.sink + total g.M.Machine.ahead l.initial.machines;
  fixed : g.S.EventSink.fixed l.sink ≡ g.S.EventSink.fixed l.initial.sink;
}
