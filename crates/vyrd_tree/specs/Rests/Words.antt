-- The cell of a word of a node.
use Rattle.std.specs.Prelude.{ℕ}
use Rattle.vyrd_tree.specs.declared.node.Word.{Word}
use Rattle.vyrd_tree.specs.declared.node.Word.TheVariants.{Level, Count, Bound, Right, Key, Value}
use Rattle.vyrd_tree.specs.Cells.{level_cell, count_cell, bound_cell, right_cell, key_cell}
use Rattle.vyrd_tree.specs.Cells.{value_cell}

-- the cell of a word of the node
abbrev pub cell_of : ℕ → Word → ℕ
cell_of node Level = level_cell node
cell_of node Count = count_cell node
cell_of node Bound = bound_cell node
cell_of node Right = right_cell node
cell_of node (Key slot) = key_cell node slot.place
cell_of node (Value slot) = value_cell node slot.place
