use Rattle.vyrd_work.proofs.Prelude.{◌≡◌, take, ops_of}
use Rattle.vyrd_work.proofs.machine.own_ops.Given as goal

-- those before this one
abbrev pub invariant-loop-op : goal.invariant-loop-op
invariant-loop-op l = l.own.items ≡ ops_of l.caller (take l.op-index l.ops)
