use Rattle.std.proofs.Common.{◌≡◌, ◌++◌, take}
use Rattle.vyrd_item_text.specs.ItemText.{items_text}
use Rattle.vyrd_item_text.proofs.text.put_items.Given as goal

abbrev pub invariant-loop-item : goal.invariant-loop-item
invariant-loop-item g l = l.text.items
    ≡ l.fn.text.items ++ items_text (g.L.Lines.line l.fn.lines) (take l.item-index l.items)
