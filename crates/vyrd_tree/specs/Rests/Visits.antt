-- What is left of a visit, where a walk is at a node.
use Rattle.std.specs.Prelude.{ℕ, ◌+◌, ◌-◌, ◌≤◌, nat_lt, List, ◌∷◌, ◌++◌, map, take, drop, ⊤}
use Rattle.std.specs.Prelude.{if◌then◌else◌}
use Rattle.vyrd_base.specs.declared.header.Header.{Header}
use Rattle.vyrd_memory.specs.declared.act.Act.TheVariants.{Load}
use Rattle.vyrd_memory.specs.Scripts.{Script, step}
use Rattle.vyrd_tree.specs.declared.node.Word.TheVariants as word
use Rattle.vyrd_tree.specs.declared.visit.Visiting.TheVariants as visiting
use Rattle.vyrd_tree.specs.declared.visit.Onward.TheVariants as onward
use Rattle.vyrd_tree.specs.declared.node.Word.{Word}
use Rattle.vyrd_tree.specs.declared.visit.Visit.{Visit}
use Rattle.vyrd_tree.specs.declared.visit.Visiting.{Visiting}
use Rattle.vyrd_tree.specs.declared.visit.Onward.{Onward}
use Rattle.vyrd_tree.specs.declared.task.Task.{Task}
use Rattle.vyrd_tree.specs.Cells.{level_cell, count_cell, bound_cell, right_cell, key_cell}
use Rattle.vyrd_tree.specs.Cells.{value_cell, unlock_node}
use Rattle.vyrd_tree.specs.Procedures.Walk.{Arrived, load_keys, load_values, to_child, load_rest}
use Rattle.vyrd_tree.specs.Procedures.Walk.{pass_on, visit_node}
use Rattle.vyrd_tree.specs.Rests.Errands.{key_for, toward, lost_for, arrived_for, walk_on}
use Rattle.vyrd_tree.specs.Rests.Written.{key_at}

-- the node of a visit, with these entries
abbrev pub arrived_at : Visit → List (ℕ × ℕ) → Arrived
arrived_at v entries = record {
  node = v.node.number;
  level = v.level;
  bound = v.bound;
  right = v.right;
  entries = entries;
}

-- the keys of entries
abbrev pub keys_of : List (ℕ × ℕ) → List ℕ
keys_of entries = map (λ entry. entry.0) entries

-- a visit whose node has this many entries, once the keys are loaded
abbrev pub with_keys : Header → Task → Visit → ℕ → List ℕ → Script
with_keys h task v count keys = if nat_lt (toward v.errand) v.level
    then to_child h (key_for task v.errand) v.node.number count keys (lost_for task v.errand)
    (walk_on h task v.errand v.left)
    else load_rest v.node.number v.level v.bound v.right keys (arrived_for h task v.errand)

-- the keys of a visit's node from a place on, if it has this many entries
abbrev pub keys_from_rest : Header → Task → Visit → ℕ → ℕ → Script
keys_from_rest h task v place count =
    load_keys (count - place) v.node.number place
    (λ keys. with_keys h task v count (keys_of (take place v.entries.slots) ++ keys))

-- its values from a place on
abbrev pub values_from_rest : Header → Task → Visit → ℕ → ℕ → Script
values_from_rest h task v place count =
    load_values (keys_of (drop place (take count v.entries.slots))) v.node.number place
    (λ entries. arrived_for h task v.errand (arrived_at v (take place v.entries.slots ++ entries)))

-- a visit, once level, count, bound and right link are loaded
abbrev pub looked_at : Header → Task → Visit → ℕ → ℕ → ℕ → ℕ → Script
looked_at h task v level count bound right = pass_on h task.variant (key_for task v.errand)
    (toward v.errand) v.node.number level count bound right
    (lost_for task v.errand) (walk_on h task v.errand v.left) (arrived_for h task v.errand)

-- a visit from a load on
abbrev pub loading : Header → Task → Visit → Word → Script
loading h task v word.Level =
    step (Load (level_cell v.node.number)) (λ level. step (Load (count_cell v.node.number))
    (λ count. step (Load (bound_cell v.node.number)) (λ bound.
    step (Load (right_cell v.node.number)) (λ right. looked_at h task v level count bound right))))
loading h task v word.Count = step (Load (count_cell v.node.number)) (λ count.
    step (Load (bound_cell v.node.number)) (λ bound. step (Load (right_cell v.node.number))
    (λ right. looked_at h task v v.level count bound right)))
loading h task v word.Bound =
    step (Load (bound_cell v.node.number)) (λ bound. step (Load (right_cell v.node.number))
    (λ right. looked_at h task v v.level v.count bound right))
loading h task v word.Right = step (Load (right_cell v.node.number))
    (λ right. looked_at h task v v.level v.count v.bound right)
loading h task v (word.Key slot) = step (Load (key_cell v.node.number slot.place)) (λ key.
    load_keys (slot.of - (slot.place + 1)) v.node.number (slot.place + 1) (λ keys.
    with_keys h task v slot.of (keys_of (take slot.place v.entries.slots) ++ key ∷ keys)))
loading h task v (word.Value slot) =
    step (Load (value_cell v.node.number slot.place)) (λ value. load_values
    (keys_of (drop (slot.place + 1) (take slot.of v.entries.slots))) v.node.number (slot.place + 1)
    (λ entries. arrived_for h task v.errand (arrived_at v
    (take slot.place v.entries.slots ++ (key_at v.entries.slots slot.place, value) ∷ entries))))

-- what is left of a visit
abbrev pub visiting_rest : Header → Task → Visit → Visiting → Script
visiting_rest h task v visiting.Lock =
    visit_node h task.variant (key_for task v.errand) (toward v.errand) v.node.number
    (lost_for task v.errand) (walk_on h task v.errand v.left) (arrived_for h task v.errand)
visiting_rest h task v (visiting.Load word) = loading h task v word
visiting_rest h task v (visiting.LoadChild slot) =
    step (Load (value_cell v.node.number slot.place))
    (λ child. unlock_node h v.node.number (walk_on h task v.errand v.left child))
visiting_rest h task v (visiting.Leave next) =
    unlock_node h v.node.number (walk_on h task v.errand v.left next)
visiting_rest h task v visiting.Lost = unlock_node h v.node.number (lost_for task v.errand)

-- what is left after a step of a visit
abbrev pub onward_rest : Header → Task → Visit → Onward → Script
onward_rest h task v (onward.At place) = visiting_rest h task v place
onward_rest h task v (onward.Arrived count) =
    arrived_for h task v.errand (arrived_at v (take count v.entries.slots))
onward_rest h task v onward.Lost = lost_for task v.errand

-- A node where a walk has arrived has few entries.
abbrev pub HasFew : Onward → Type 0
HasFew (onward.At place) = ⊤
HasFew (onward.Arrived count) = count ≤ 4
HasFew onward.Lost = ⊤
