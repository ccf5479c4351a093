-- After a node was split, the ascent gives the new node an entry on the next level, where that node
-- may be split in turn. It may stop early: what is missing above is still found by the right links.
use Rattle.std.specs.Prelude.{ℕ, zero, suc, ◌+◌, nat_lt, nat_le, [], ◌∷◌, length, if◌then◌else◌}
use Rattle.vyrd_base.specs.declared.header.Header.{Header}
use Rattle.vyrd_base.specs.declared.log.Kind.TheVariants.{BlockOpen, BlockClose}
use Rattle.vyrd_memory.specs.declared.act.Act.TheVariants.{Load, Store, Mark}
use Rattle.vyrd_memory.specs.declared.op.Variant.{Variant}
use Rattle.vyrd_memory.specs.Scripts.{Script, step, perform}
use Rattle.vyrd_tree.specs.Cells.{level_cell, root_cell, unlock_node, lock_root, unlock_root}
use Rattle.vyrd_tree.specs.Procedures.Walk.{Arrived, walk_from}
use Rattle.vyrd_tree.specs.Procedures.Split.{with_unused, write_node, add_entry, split_entry}
use Rattle.vyrd_tree.specs.Procedures.Split.{split_key}

-- With the root's lock held: a new root above the old one, which has the old one and the new node
-- as its children.
abbrev pub grow_root : Header → ℕ → ℕ → ℕ → ℕ → Script → Script
grow_root h level key node root ended = with_unused h (unlock_root h ended) (λ new.
    perform (Mark BlockOpen) (write_node new (level + 1) 0 0 ((0, root) ∷ (key, node) ∷ [])
    (perform (Store (root_cell h) new) (perform (Mark BlockClose) (unlock_root h ended)))))

-- where the walk of a round has arrived: the new node's entry, which may split this node in turn
abbrev pub add_child : Header → ℕ → ℕ → ℕ → Arrived → Script → (ℕ → ℕ → ℕ → Script) → Script
add_child h level key node at ended next =
    if nat_le at.level level then unlock_node h at.node ended
    else (if nat_lt (length at.entries) 4 then add_entry h at key node BlockClose ended
    else with_unused h (unlock_node h at.node ended) (λ new.
    split_entry h at key node new BlockClose (next (level + 1) (split_key at key node) new)))

-- One round: on the level above this one, the node gets an entry with this key. The ascent stops,
-- or the next round has the level, the key and the node of the split above.
abbrev pub ascend_once : Header → Variant → ℕ → ℕ → ℕ → Script → (ℕ → ℕ → ℕ → Script) → Script
ascend_once h variant level key node ended next =
    lock_root h (step (Load (root_cell h)) (λ root. if nat_lt root h.size
    then step (Load (level_cell root)) (λ top. if nat_le top level
    then grow_root h level key node root ended
    else unlock_root h (walk_from h variant key (level + 1) h.size root ended
    (λ at. add_child h level key node at ended next)))
    else unlock_root h ended))

-- an ascent with this many rounds left
abbrev pub ascend : Header → Variant → ℕ → ℕ → ℕ → ℕ → Script → Script
ascend h variant zero level key node ended = ended
ascend h variant (suc left) level key node ended =
    ascend_once h variant level key node ended
    (λ level' key' node'. ascend h variant left level' key' node' ended)
