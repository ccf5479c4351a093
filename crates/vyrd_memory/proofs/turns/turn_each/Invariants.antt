use Rattle.vyrd_memory.proofs.Prelude.{◌≡◌, ◌≢◌, ℕ, ◌+◌, ◌<◌, ◌≤◌, true, false, take, length}
use Rattle.vyrd_memory.proofs.Prelude.{get_or, slice_get, total, HasShown, stage}
use Rattle.vyrd_memory.proofs.turns.turn_each.Given as goal

-- the callers before this one have had their turns
abbrev pub invariant-loop-caller : goal.invariant-loop-caller
invariant-loop-caller g l = record {
  shown : HasShown l.header g.M.Machine.header_of g.M.Machine.script g.S.EventSink.has_taken
      (take l.caller-index l.callers)
      (stage l.initial.machines l.initial.words.items l.initial.sink)
      (stage l.machines l.words.items l.sink);
  still : l.moved ≡ false → g.S.EventSink.count l.sink ≡ g.S.EventSink.count l.initial.sink;
  few : g.S.EventSink.count l.sink + total g.M.Machine.ahead l.machines
      ≤ g.S.EventSink.count l.initial.sink + total g.M.Machine.ahead l.initial.machines;
  fixed : g.S.EventSink.fixed l.sink ≡ g.S.EventSink.fixed l.initial.sink;
  rests : total g.M.Machine.ahead l.machines ≤ total g.M.Machine.ahead l.initial.machines;
  falls : l.moved ≡ true → total g.M.Machine.ahead l.machines < total g.M.Machine.ahead
      l.initial.machines;
  others : (c : ℕ) → ((i : ℕ) → i < length l.callers → get_or l.callers i 0 ≢ c)
      → slice_get l.machines c ≡ slice_get l.initial.machines c;
}
