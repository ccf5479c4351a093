use Rattle.vyrd_memory.proofs.Prelude.{◌≡◌, ◌+◌, ◌≤◌, take, turns_of, total, HasShown, stage}
use Rattle.vyrd_memory.proofs.turns.repeat_all.Given as goal

-- the turns before this one were had
abbrev pub invariant-loop-turn : goal.invariant-loop-turn
invariant-loop-turn g l = record {
  shown : HasShown l.header g.M.Machine.header_of g.M.Machine.script g.S.EventSink.has_taken
      (turns_of (take l.turn-index l.turns))
      (stage l.initial.machines l.initial.words.items l.initial.sink)
      (stage l.machines l.words.items l.sink);
  few : g.S.EventSink.count l.sink + total g.M.Machine.ahead l.machines
      ≤ g.S.EventSink.count l.initial.sink + total g.M.Machine.ahead l.initial.machines;
  fixed : g.S.EventSink.fixed l.sink ≡ g.S.EventSink.fixed l.initial.sink;
}
