use Rattle.vyrd_memory.proofs.Prelude.{◌≡◌, ℕ, ◌+◌, ◌≤◌, length, total, rounds_over, LeavesOut}
use Rattle.vyrd_memory.proofs.Prelude.{HasShown, stage}
use Rattle.vyrd_memory.proofs.turns.play_rounds.Given as goal

-- some rounds have been played
abbrev pub invariant-loop-callers : goal.invariant-loop-callers
invariant-loop-callers g l = record {
  rounds : ℕ;
  shown : HasShown l.header g.M.Machine.header_of g.M.Machine.script g.S.EventSink.has_taken
      (rounds_over (length l.initial.machines) rounds)
      (stage l.initial.machines l.initial.words.items l.initial.sink)
      (stage l.machines l.words.items l.sink);
  few : g.S.EventSink.count l.sink + total g.M.Machine.ahead l.machines
      ≤ g.S.EventSink.count l.initial.sink + total g.M.Machine.ahead l.initial.machines;
  fixed : g.S.EventSink.fixed l.sink ≡ g.S.EventSink.fixed l.initial.sink;
  left_out : LeavesOut g.M.Machine.script l.machines l.callers.items;
}

abbrev pub decreases-loop-callers : goal.decreases-loop-callers
decreases-loop-callers g l = total g.M.Machine.ahead l.machines
