-- How a node gets one more entry: it has room, or it is split into two.
use Rattle.std.specs.Prelude.{ℕ, ◌+◌, nat_lt, nat_le, List, [], ◌∷◌, length, take, drop, insert}
use Rattle.std.specs.Prelude.{count_by, if◌then◌else◌}
use Rattle.vyrd_base.specs.declared.header.Header.{Header}
use Rattle.vyrd_base.specs.declared.log.Kind.{Kind}
use Rattle.vyrd_base.specs.declared.log.Kind.TheVariants.{BlockOpen}
use Rattle.vyrd_memory.specs.declared.act.Act.TheVariants.{Load, Store, Mark}
use Rattle.vyrd_memory.specs.Scripts.{Script, step, perform}
use Rattle.vyrd_tree.specs.Cells.{level_cell, count_cell, bound_cell, right_cell, key_cell}
use Rattle.vyrd_tree.specs.Cells.{value_cell, used_cell, unlock_node, lock_used, unlock_used}
use Rattle.vyrd_tree.specs.Procedures.Walk.{Arrived}

-- get an unused node, if there is one
abbrev pub with_unused : Header → Script → (ℕ → Script) → Script
with_unused h none found = lock_used h (step (Load (used_cell h)) (λ used.
    if nat_le h.size (used + 1)
    then unlock_used h none
    else perform (Store (used_cell h) (used + 1)) (unlock_used h (found (used + 1)))))

-- write entries in a node from this place on
abbrev pub write_entries : ℕ → ℕ → List (ℕ × ℕ) → Script → Script
write_entries node place [] later = later
write_entries node place ((key, value) ∷ entries) later =
    perform (Store (key_cell node place) key)
    (perform (Store (value_cell node place) value) (write_entries node (place + 1) entries later))

-- write a node that wasn't in use, with two entries
abbrev pub write_node : ℕ → ℕ → ℕ → ℕ → List (ℕ × ℕ) → Script → Script
write_node node level bound right entries later =
    perform (Store (level_cell node) level)
    (perform (Store (count_cell node) 2) (perform (Store (bound_cell node) bound)
    (perform (Store (right_cell node) right) (write_entries node 0 entries later))))

-- the place of a new entry: how many keys are below its key
abbrev pub place_below : ℕ → List (ℕ × ℕ) → ℕ
place_below key entries = count_by (λ entry. nat_lt entry.0 key) entries

-- the entries with a new one, at its place
abbrev pub with_entry : List (ℕ × ℕ) → ℕ → ℕ → List (ℕ × ℕ)
with_entry entries key value = insert entries (place_below key entries) (key, value)

-- in a block: write entries from a place on, and the count; then unlock the node
abbrev pub rewrite : Header → ℕ → ℕ → List (ℕ × ℕ) → Kind → Script → Script
rewrite h node place entries close later =
    perform (Mark BlockOpen) (write_entries node place (drop place entries) (perform
    (Store (count_cell node) (length entries)) (perform (Mark close) (unlock_node h node later))))

-- a new entry in a node that has room for it
abbrev pub add_entry : Header → Arrived → ℕ → ℕ → Kind → Script → Script
add_entry h at key value close later =
    rewrite h at.node (place_below key at.entries) (with_entry at.entries key value) close later

-- of five entries the three that stay, and the two that go to the new node
abbrev pub lower_half : List (ℕ × ℕ) → List (ℕ × ℕ)
lower_half five = take 3 five

abbrev pub upper_half : List (ℕ × ℕ) → List (ℕ × ℕ)
upper_half five = drop 3 five

-- the first key, and 0 if there is none
abbrev pub first_key : List (ℕ × ℕ) → ℕ
first_key [] = 0
first_key ((key, value) ∷ entries) = key

-- Five entries, of which the one at this place is new, in the node and a new one on its right. The
-- new node takes over the bound and the right link; in the old one the entries before the place
-- stand already.
abbrev pub split : Arrived → ℕ → List (ℕ × ℕ) → ℕ → Script → Script
split at place five new later =
    write_node new at.level at.bound at.right (upper_half five) (write_entries at.node place
    (drop place (lower_half five))
    (perform (Store (count_cell at.node) 3) (perform (Store (bound_cell at.node)
    (first_key (upper_half five))) (perform (Store (right_cell at.node) new) later))))

-- in a block: a new entry in a node that is full, which is split; then unlock the node
abbrev pub split_entry : Header → Arrived → ℕ → ℕ → ℕ → Kind → Script → Script
split_entry h at key value new close later =
    perform (Mark BlockOpen) (split at (place_below key at.entries)
    (with_entry at.entries key value) new (perform (Mark close) (unlock_node h at.node later)))

-- the first key of the new node, after a split for this entry
abbrev pub split_key : Arrived → ℕ → ℕ → ℕ
split_key at key value = first_key (upper_half (with_entry at.entries key value))
