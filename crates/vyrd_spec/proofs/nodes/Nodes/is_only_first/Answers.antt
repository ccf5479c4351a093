use Rattle.std.proofs.Common.{arith}
use Rattle.vyrd_spec.proofs.RowLaws.{count_at_most, counted_one, counted_none}
use Rattle.vyrd_spec.proofs.nodes.Nodes.is_only_first.Goals as goal

pub overflow_add-firsts : goal.overflow_add-firsts
overflow_add-firsts = grind (arith, count_at_most)

pub loop-other-preserved : goal.loop-other-preserved
loop-other-preserved = grind (arith, counted_one, counted_none)

pub returns : goal.returns
returns = grind arith
