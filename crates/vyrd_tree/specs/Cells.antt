-- Where the words and the locks of a tree are. A node has 12 words: its level, which is 0 for a
-- leaf; the count of its entries; its bound, which is the high key plus 1, and 0 if there is no
-- high key; the node on its right, and 0 if there is none; the keys of up to four entries; and
-- their values in a leaf, or their children in an inner node. Each node has a lock.
use Rattle.std.specs.Prelude.{ℕ, ◌+◌, ◌*◌}
use Rattle.vyrd_base.specs.declared.header.Header.{Header}
use Rattle.vyrd_memory.specs.declared.act.Act.TheVariants.{Take, Give}
use Rattle.vyrd_memory.specs.Scripts.{Script, perform}

-- a node's word at this place
abbrev pub node_cell : ℕ → ℕ → ℕ
node_cell node place = 12 * node + place

-- its level
abbrev pub level_cell : ℕ → ℕ
level_cell node = node_cell node 0

-- the count of its entries
abbrev pub count_cell : ℕ → ℕ
count_cell node = node_cell node 1

-- its bound
abbrev pub bound_cell : ℕ → ℕ
bound_cell node = node_cell node 2

-- the node on its right
abbrev pub right_cell : ℕ → ℕ
right_cell node = node_cell node 3

-- the key of an entry
abbrev pub key_cell : ℕ → ℕ → ℕ
key_cell node place = node_cell node (4 + place)

-- the value of an entry, or its child
abbrev pub value_cell : ℕ → ℕ → ℕ
value_cell node place = node_cell node (8 + place)

-- the root's node
abbrev pub root_cell : Header → ℕ
root_cell h = 12 * h.size

-- how many nodes are in use besides node 0
abbrev pub used_cell : Header → ℕ
used_cell h = 12 * h.size + 1

-- the lock of a node
abbrev pub lock_of : Header → ℕ → ℕ
lock_of h node = 12 * h.size + 2 + node

-- the lock of the root's word
abbrev pub root_lock : Header → ℕ
root_lock h = 13 * h.size + 2

-- the lock of the count of nodes in use
abbrev pub used_lock : Header → ℕ
used_lock h = 13 * h.size + 3

-- lock a node, or unlock it, and go on
abbrev pub lock_node : Header → ℕ → Script → Script
lock_node h node later = perform (Take (lock_of h node)) later

abbrev pub unlock_node : Header → ℕ → Script → Script
unlock_node h node later = perform (Give (lock_of h node)) later

-- the same for the root's word
abbrev pub lock_root : Header → Script → Script
lock_root h later = perform (Take (root_lock h)) later

abbrev pub unlock_root : Header → Script → Script
unlock_root h later = perform (Give (root_lock h)) later

-- the same for the count of nodes in use
abbrev pub lock_used : Header → Script → Script
lock_used h later = perform (Take (used_lock h)) later

abbrev pub unlock_used : Header → Script → Script
unlock_used h later = perform (Give (used_lock h)) later
