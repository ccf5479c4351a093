-- A walk goes with a key toward a level, from node to node: right if the key is past a node's
-- bound, and down if the node's level is higher. It holds one lock at a time. Where it arrives, it
-- holds the lock of the node there and has loaded the node.
use Rattle.std.specs.Prelude.{ℕ, zero, suc, ◌+◌, min, Bool, not, ◌&&◌, ◌==◌, nat_lt, nat_le, List}
use Rattle.std.specs.Prelude.{[], ◌∷◌, if◌then◌else◌}
use Rattle.std.specs.List.{list_any}
use Rattle.vyrd_base.specs.declared.header.Header.{Header}
use Rattle.vyrd_memory.specs.declared.act.Act.TheVariants.{Load}
use Rattle.vyrd_memory.specs.declared.op.Variant.{Variant}
use Rattle.vyrd_memory.specs.declared.op.Variant.TheVariants.{Correct, Broken}
use Rattle.vyrd_memory.specs.Scripts.{Script, step}
use Rattle.vyrd_tree.specs.Cells.{level_cell, count_cell, bound_cell, right_cell, key_cell}
use Rattle.vyrd_tree.specs.Cells.{value_cell, lock_node, unlock_node}

-- the node where a walk has arrived, as it was loaded: each entry is a key with its value or child
pub record Arrived : Type 0 where
  pub node : ℕ
  pub level : ℕ
  pub bound : ℕ
  pub right : ℕ
  pub entries : List (ℕ × ℕ)

-- load a node's keys from this place on, with this many left
abbrev pub load_keys : ℕ → ℕ → ℕ → (List ℕ → Script) → Script
load_keys zero node place loaded = loaded []
load_keys (suc left) node place loaded =
    step (Load (key_cell node place))
    (λ key. load_keys left node (place + 1) (λ keys. loaded (key ∷ keys)))

-- load the values that belong to these keys, which stand from this place on
abbrev pub load_values : List ℕ → ℕ → ℕ → (List (ℕ × ℕ) → Script) → Script
load_values [] node place loaded = loaded []
load_values (key ∷ keys) node place loaded =
    step (Load (value_cell node place))
    (λ value. load_values keys node (place + 1) (λ entries. loaded ((key, value) ∷ entries)))

-- whether a key is past a bound
abbrev pub is_past : ℕ → ℕ → Bool
is_past bound key = not (bound == 0) && nat_le bound key

-- whether the walk moves right: the broken variant does so only above the leaves
abbrev pub moves_right : Variant → ℕ → ℕ → ℕ → Bool
moves_right Correct level bound key = is_past bound key
moves_right Broken level bound key = not (level == 0) && is_past bound key

-- the place of the last key that is at most this one, and place 0 if there is none
abbrev pub child_place : ℕ → List ℕ → ℕ
child_place key [] = 0
child_place key (first ∷ keys) =
    if list_any (λ other. nat_le other key) keys then child_place key keys + 1 else 0

-- if these are the keys: load the child that the key belongs to, unlock the node, and visit the
-- child
abbrev pub to_child : Header → ℕ → ℕ → ℕ → List ℕ → Script → (ℕ → Script) → Script
to_child h key node count keys lost visit =
    if count == 0
    then unlock_node h node lost
    else step (Load (value_cell node (child_place key keys)))
    (λ child. unlock_node h node (visit child))

-- with this many entries: load the keys, and go to a child
abbrev pub descend : Header → ℕ → ℕ → ℕ → Script → (ℕ → Script) → Script
descend h key node count lost visit =
    load_keys count node 0 (λ keys. to_child h key node count keys lost visit)

-- if these are the keys: load the values
abbrev pub load_rest : ℕ → ℕ → ℕ → ℕ → List ℕ → (Arrived → Script) → Script
load_rest node level bound right keys arrived = load_values keys node 0 (λ entries. arrived
    (record { node = node; level = level; bound = bound; right = right; entries = entries }))

-- with this many entries: load the keys and then the values
abbrev pub arrive : ℕ → ℕ → ℕ → ℕ → ℕ → (Arrived → Script) → Script
arrive node level count bound right arrived =
    load_keys count node 0 (λ keys. load_rest node level bound right keys arrived)

-- what a walk does at a node, once it has loaded the level, the count, the bound and the right node
abbrev pub pass_on : Header → Variant → ℕ → ℕ → ℕ → ℕ → ℕ → ℕ → ℕ → Script → (ℕ → Script)
    → (Arrived → Script) → Script
pass_on h variant key toward node level count bound right lost visit arrived =
    if moves_right variant level bound key then unlock_node h node (visit right)
    else (if nat_lt toward level then descend h key node (min count 4) lost visit
    else arrive node level (min count 4) bound right arrived)

-- what a walk does at a node
abbrev pub visit_node : Header → Variant → ℕ → ℕ → ℕ → Script → (ℕ → Script) → (Arrived → Script)
    → Script
visit_node h variant key toward node lost visit arrived = lock_node h node
    (step (Load (level_cell node)) (λ level. step (Load (count_cell node)) (λ count.
    step (Load (bound_cell node)) (λ bound. step (Load (right_cell node)) (λ right.
    pass_on h variant key toward node level count bound right lost visit arrived)))))

-- A walk from a node on, with a key, toward a level, and with this many visits left. It is lost if
-- there is no such node, or if no visit is left.
abbrev pub walk_from : Header → Variant → ℕ → ℕ → ℕ → ℕ → Script → (Arrived → Script) → Script
walk_from h variant key toward zero node lost arrived = lost
walk_from h variant key toward (suc left) node lost arrived =
    if nat_lt node h.size
    then visit_node h variant key toward node lost
    (λ next. walk_from h variant key toward left next lost arrived) arrived
    else lost
