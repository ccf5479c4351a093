use Rattle.vyrd_spec.proofs.Prelude.{arith, is_same}
use Rattle.vyrd_spec.proofs.NodeLaws.{linked_end, linked_on}
use Rattle.vyrd_spec.proofs.nodes.Nodes.is_linked.Goals as goal

pub returns-then-right-eq0 : goal.returns-then-right-eq0
returns-then-right-eq0 = grind (arith, is_same, linked_end)

pub returns-then-right-self : goal.returns-then-right-self
returns-then-right-self = grind (arith, linked_on)
