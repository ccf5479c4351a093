use Rattle.vyrd_work.proofs.Prelude.{◌≡◌, ◌++◌, take, flat_map, ended_line, item_line}
use Rattle.vyrd_work.specs.declared.line.Item.TheVariants as item
use Rattle.vyrd_work.proofs.writer.append_ops.Given as goal

abbrev pub invariant-loop-op : goal.invariant-loop-op
invariant-loop-op l = l.out.items ≡ l.initial.out.items
    ++ flat_map (λ o. ended_line (item_line (item.Op o))) (take l.op-index l.ops)
