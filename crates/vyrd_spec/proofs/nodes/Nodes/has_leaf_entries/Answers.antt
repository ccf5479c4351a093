use Rattle.std.proofs.Common.{arith}
use Rattle.vyrd_spec.proofs.NodeLaws.{entries_fail, entries_pass}
use Rattle.vyrd_spec.proofs.RowLaws.{passes_more}
use Rattle.vyrd_spec.proofs.nodes.Nodes.has_leaf_entries.Goals as goal

pub returns-then-not-is_leaf_entry : goal.returns-then-not-is_leaf_entry
returns-then-not-is_leaf_entry = grind (arith, entries_fail)

pub loop-place-preserved : goal.loop-place-preserved
loop-place-preserved = grind (arith, passes_more)

pub returns : goal.returns
returns = grind (arith, entries_pass)
