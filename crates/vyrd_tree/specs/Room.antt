-- The leaf of a key, and where nothing can be inserted.
use Rattle.std.specs.Prelude.{◌≡◌, ℕ, zero, suc, ◌+◌, ◌≤◌, if◌then◌else◌}
use Rattle.vyrd_base.specs.declared.header.Header.{Header}
use Rattle.vyrd_base.specs.Amounts.{Amounts, amount_of}
use Rattle.vyrd_memory.specs.Alone.{Memory}
use Rattle.vyrd_tree.specs.Cells.{count_cell, bound_cell, right_cell, used_cell}
use Rattle.vyrd_tree.specs.Procedures.Walk.{is_past}

-- the first node, from this one on along the right links, whose bound the key isn't past, with this
-- many links at most
abbrev pub leaf_from : ℕ → Memory → ℕ → ℕ → ℕ
leaf_from zero memory key node = node
leaf_from (suc left) memory key node =
    if is_past (memory (bound_cell node)) key
    then leaf_from left memory key (memory (right_cell node))
    else node

-- the leaf of a key: the chain of the leaves begins at node 0
abbrev pub leaf_of : Header → Memory → ℕ → ℕ
leaf_of h memory key = leaf_from h.size memory key 0

-- nothing can be inserted with the key: it isn't there, its leaf has 4 entries, and no node is
-- unused
pub record HasNoRoom (h : Header) (memory : Memory) (state : Amounts) (key : ℕ) : Type 0 where
  pub absent : amount_of state key ≡ 0
  pub full : memory (count_cell (leaf_of h memory key)) ≡ 4
  pub no_node : h.size ≤ memory (used_cell h) + 1
