-- A node that hangs on its left neighbour alone: no entry of an inner node leads to it. A node that
-- was split off hangs until the ascent gives it an entry on the next level.
use Rattle.std.specs.Prelude.{ℕ, Bool, not, ◌&&◌, ◌||◌, ◌==◌, nat_le, List}
use Rattle.std.specs.List.{list_all}
use Rattle.vyrd_base.specs.declared.header.Header.{Header}
use Rattle.vyrd_base.specs.Tree.{level_of, entries_of}
use Rattle.vyrd_base.specs.Tree.{last_of, nodes, low_of}
use Rattle.vyrd_memory.specs.Alone.{Memory, words_in}

-- whether a node is a leaf, or none of its entries leads to the other node
abbrev pub leads_elsewhere : List ℕ → ℕ → ℕ → Bool
leads_elsewhere words other node =
    level_of words node == 0 || list_all (λ entry. not (entry.1 == other)) (entries_of words node)

-- whether the node is on the chain of the level, the key is its low and isn't 0, and no entry of an
-- inner node leads to it
abbrev pub hangs_in : ℕ → List ℕ → ℕ → ℕ → ℕ → Bool
hangs_in size words level key node =
    nat_le node (last_of size words) && level_of words node == level
    && low_of (last_of size words) words node == key && not (key == 0)
    && list_all (leads_elsewhere words node) (nodes (last_of size words))

abbrev pub is_hanging : Header → Memory → ℕ → ℕ → ℕ → Bool
is_hanging h memory level key node = hangs_in h.size (words_in h memory) level key node
