use Rattle.vyrd_own_text.proofs.Prelude.{◌≡◌, drop, op_among}
use Rattle.vyrd_own_text.proofs.expression.read_op_among.Given as goal

abbrev pub invariant-loop-op : goal.invariant-loop-op
invariant-loop-op l = op_among (drop l.op-index l.ops) l.text ≡ op_among l.ops l.text
