use Rattle.std.proofs.Common.{◌-◌, length}
use Rattle.vyrd_witness.proofs.BegunLaws.{LeavesBegun}
use Rattle.vyrd_witness.proofs.execution.begun_in.Given as goal

abbrev pub invariant-loop-i : goal.invariant-loop-i
invariant-loop-i l = LeavesBegun l.fn.caller l.before (length l.before - l.i)
