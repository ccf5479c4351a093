use Rattle.std.proofs.Common.{◌+◌, ◌-◌, ◌≤◌, false, length, take}
use Rattle.vyrd_base.specs.Devices.{AfterWrites}
use Rattle.vyrd_check_command.specs.Outputs.{Appends}
use Rattle.vyrd_check_command.proofs.deliver.deliver.Given as goal

abbrev pub invariant-loop-written : goal.invariant-loop-written
invariant-loop-written g l = record {
  within : l.written ≤ length l.text;
  taken : Appends (g.K.Sink.known l.fn.sink).taken (g.K.Sink.known l.sink).taken
      (take l.written l.text);
  room : (g.K.Sink.known l.fn.sink).sure_room ≤ (g.K.Sink.known l.sink).sure_room + l.written;
  sink : AfterWrites false (length l.text ≤ (g.K.Sink.known l.fn.sink).sure_room)
      (g.K.Sink.known l.fn.sink) (g.K.Sink.known l.sink);
}

abbrev pub decreases-loop-written : goal.decreases-loop-written
decreases-loop-written g l = length l.text - l.written
