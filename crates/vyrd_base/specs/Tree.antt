-- The B-link tree from keys to values (Lehman and Yao, TODS 1981), with as many nodes as its size,
-- each of at most 4 entries. The amount of a key is 2^32 plus its value.
use Rattle.std.specs.Prelude.{ℕ, zero, suc, Bool, true, false, not, min, ◌+◌, ◌-◌, ◌*◌, ◌^◌, ◌==◌}
use Rattle.std.specs.Prelude.{◌&&◌, ◌||◌, nat_lt, nat_le, List, [], ◌∷◌, ◌++◌, map, slice_index}
use Rattle.std.specs.Prelude.{count_by, find, flat_map, codes, Option, Some, None, is_none}
use Rattle.std.specs.Prelude.{if◌then◌else◌}
use Rattle.std.specs.Bool.{then_some}
use Rattle.std.specs.Option.{option_map_or}
use Rattle.std.specs.List.{list_all, list_any}
use Rattle.vyrd_base.specs.declared.tree.TreeMethod.{TreeMethod}
use Rattle.vyrd_base.specs.declared.tree.TreeMethod.TheVariants.{Insert, Delete, Lookup}
use Rattle.vyrd_base.specs.declared.subject.Args.{Args}
use Rattle.vyrd_base.specs.declared.subject.Commits.{Commits}
use Rattle.vyrd_base.specs.declared.subject.Commits.TheVariants.{Never, Once}
use Rattle.vyrd_base.specs.Limits.{is_within}
use Rattle.vyrd_base.specs.Amounts.{Amounts, amount_of, is_present, with_amount}
use Rattle.vyrd_base.specs.Places.{numbers_below}
use Rattle.vyrd_base.specs.Structures.{Structure, by_reply}

abbrev pub called : TreeMethod → List ℕ
called Insert = codes "insert"
called Delete = codes "delete"
called Lookup = codes "lookup"

abbrev pub arity : TreeMethod → ℕ
arity Insert = 2
arity Delete = 1
arity Lookup = 1

-- any number of 32 bits is a key or a value
abbrev pub takes : ℕ → TreeMethod → Args → Bool
takes size Insert args = true
takes size Delete args = true
takes size Lookup args = true

abbrev pub commits : TreeMethod → Commits
commits Insert = Once
commits Delete = Once
commits Lookup = Never

-- An insert may always give up, with the reply 0, and change nothing. It replies 1 if the key is
-- new, and 2 if it was there.
abbrev pub next : TreeMethod → Args → ℕ → Amounts → Option Amounts
next Insert args reply state = by_reply reply
    (Some state)
    (then_some (not (is_present state args.a)) (with_amount state args.a (2 ^ 32 + args.b)))
    (then_some (is_present state args.a) (with_amount state args.a (2 ^ 32 + args.b)))
next Delete args reply state = by_reply reply
    (then_some (not (is_present state args.a)) state)
    (then_some (is_present state args.a) (with_amount state args.a 0))
    None
next Lookup args reply state = None

-- A lookup answers the key's value plus 1, and 0 if the key isn't there.
abbrev pub answer : Amounts → TreeMethod → Args → ℕ
answer state Insert args = 0
answer state Delete args = 0
answer state Lookup args =
    if is_present state args.a then amount_of state args.a - 2 ^ 32 + 1 else 0

-- What the words show: node n has the 12 words from 12n on, and the chain of the leaves begins at
-- node 0 and follows the right links.

-- word i of node n
abbrev pub node_word : List ℕ → ℕ → ℕ → ℕ
node_word words n i = slice_index words (12 * n + i)

-- the node's level, which is 0 for a leaf
abbrev pub level_of : List ℕ → ℕ → ℕ
level_of words n = node_word words n 0

-- how many entries the node says it has
abbrev pub count_of : List ℕ → ℕ → ℕ
count_of words n = node_word words n 1

-- the high key plus 1, and 0 if there is no high key
abbrev pub bound_of : List ℕ → ℕ → ℕ
bound_of words n = node_word words n 2

-- the node on the right, and 0 if there is none
abbrev pub right_of : List ℕ → ℕ → ℕ
right_of words n = node_word words n 3

-- the key and the value (in a leaf) or the child (in an inner node) of each entry
abbrev pub entries_of : List ℕ → ℕ → List (ℕ × ℕ)
entries_of words n = map (λ j. (node_word words n (4 + j), node_word words n (8 + j)))
    (numbers_below (min (count_of words n) 4))

-- what stands for damage: a key above all others
abbrev pub damage : List (ℕ × ℕ)
damage = (2 ^ 33, 1) ∷ []

-- an entry gives its key 2^32 and its value
abbrev pub entry_parts : ℕ × ℕ → List (ℕ × ℕ)
entry_parts (key, value) =
    if nat_lt key (2 ^ 32) && nat_lt value (2 ^ 32) then (key, 2 ^ 32 + value) ∷ [] else damage

-- what the entries of a node give
abbrev pub node_parts : List ℕ → ℕ → List (ℕ × ℕ)
node_parts words n = flat_map entry_parts (entries_of words n)

-- The parts of the chain of right links from a node on. Before it stand the nodes that are seen,
-- and at most as many follow as are left. The chain ends at a right link 0. One past the nodes or
-- back to a node of the chain is damage.
abbrev pub chain_parts_from : ℕ → List ℕ → ℕ → List ℕ → ℕ → List (ℕ × ℕ)
chain_parts_from size words zero seen n = []
chain_parts_from size words (suc left) seen n =
    node_parts words n ++ (elim (right_of words n == 0) [
      | true ↦ []
      | false ↦
          elim (nat_le size (right_of words n)
          || list_any (λ m. m == right_of words n) (n ∷ seen)) [
            | true ↦ damage
            | false ↦ chain_parts_from size words left (n ∷ seen) (right_of words n)
          ]
    ])

-- the parts of the chain from node 0 on, the leftmost leaf
abbrev pub chain_parts : ℕ → List ℕ → List (ℕ × ℕ)
chain_parts size words = chain_parts_from size words size [] 0

-- The words that represent a state: the nodes in use are 0 to `last`, and right links join those of
-- one level to a chain, on which keys rise. Each node is judged by itself and its neighbours.

-- the root's node
abbrev pub root_of : ℕ → List ℕ → ℕ
root_of size words = slice_index words (12 * size)

-- the count of nodes in use besides node 0, which is the last node in use
abbrev pub last_of : ℕ → List ℕ → ℕ
last_of size words = slice_index words (12 * size + 1)

-- the nodes in use
abbrev pub nodes : ℕ → List ℕ
nodes last = numbers_below (last + 1)

-- whether the right link of m leads to n
abbrev pub leads_to : List ℕ → ℕ → ℕ → Bool
leads_to words n m = right_of words m == n && not (n == 0)

-- the node on the left, and none for the first node of a chain
abbrev pub left_of : ℕ → List ℕ → ℕ → Option ℕ
left_of last words n = find (leads_to words n) (nodes last)

-- whether a node is the first of its chain
abbrev pub is_first : ℕ → List ℕ → ℕ → Bool
is_first last words n = is_none (left_of last words n)

-- the least key that may stand in the node: the left neighbour's bound, and 0 in the first node of
-- a chain
abbrev pub low_of : ℕ → List ℕ → ℕ → ℕ
low_of last words n = option_map_or (bound_of words) (left_of last words n) 0

-- At most one right link leads to the node, and its own leads to a node in use of the same level.
abbrev pub is_linked : ℕ → List ℕ → ℕ → Bool
is_linked last words n = nat_le (count_by (leads_to words n) (nodes last)) 1
    && (right_of words n == 0
    || nat_le (right_of words n) last && level_of words (right_of words n) == level_of words n)

-- The bound is 0 exactly at a chain's end, and otherwise above the low. So bounds rise along a
-- chain, and it never comes back to a node.
abbrev pub is_bounded : ℕ → List ℕ → ℕ → Bool
is_bounded last words n = (bound_of words n == 0 && right_of words n == 0)
    || (not (right_of words n == 0) && nat_lt (low_of last words n) (bound_of words n))

-- whether each number is above the one before it
abbrev pub rises : List ℕ → Bool
rises [] = true
rises (k ∷ []) = true
rises (k ∷ next ∷ keys) = nat_lt k next && rises (next ∷ keys)

-- the keys of a node's entries
abbrev pub keys_at : List ℕ → ℕ → List ℕ
keys_at words n = map (λ entry. entry.0) (entries_of words n)

-- At most 4 entries, whose keys rise from the low on and stay below the bound.
abbrev pub has_sound_keys : ℕ → List ℕ → ℕ → Bool
has_sound_keys last words n = nat_le (count_of words n) 4 && rises (keys_at words n)
    && list_all (λ key. nat_le (low_of last words n) key
    && (bound_of words n == 0 || nat_lt key (bound_of words n))) (keys_at words n)

-- a leaf's numbers fit 32 bits
abbrev pub is_leaf_entry : ℕ × ℕ → Bool
is_leaf_entry (key, value) = nat_lt key (2 ^ 32) && nat_lt value (2 ^ 32)

-- a child is in use and one level lower, and the entry's key is its low
abbrev pub is_child_entry : ℕ → List ℕ → ℕ → ℕ × ℕ → Bool
is_child_entry last words level (key, child) =
    nat_le child last && level_of words child + 1 == level && low_of last words child == key

-- the first key is the low
abbrev pub begins_with : ℕ → List ℕ → Bool
begins_with low [] = false
begins_with low (key ∷ keys) = key == low

-- A leaf holds numbers of 32 bits. An inner node has at least 2 children, of which the first begins
-- at its low.
abbrev pub has_sound_entries : ℕ → List ℕ → ℕ → Bool
has_sound_entries last words n =
    (level_of words n == 0 && list_all is_leaf_entry (entries_of words n))
    || (nat_lt 0 (level_of words n) && nat_le 2 (count_of words n)
    && begins_with (low_of last words n) (keys_at words n)
    && list_all (is_child_entry last words (level_of words n)) (entries_of words n))

-- Each level has one chain: exactly one of its nodes in use is a chain's first.
abbrev pub is_only_first : ℕ → List ℕ → ℕ → Bool
is_only_first last words n =
    count_by (λ m. level_of words m == level_of words n && is_first last words m) (nodes last) == 1

-- whether a node keeps all five rules: links, bounds, keys, entries, and one chain at its level
abbrev pub is_sound_node : ℕ → List ℕ → ℕ → Bool
is_sound_node last words n =
    is_linked last words n && is_bounded last words n && has_sound_keys last words n
    && has_sound_entries last words n && is_only_first last words n

-- Node 0 begins the chain of the leaves, and the root that of the highest level.
abbrev pub is_tree : ℕ → List ℕ → Bool
is_tree size words =
    let last = last_of size words in
    let root = root_of size words in
    nat_lt last size && nat_le root last && level_of words 0 == 0 && is_first last words root
    && list_all (λ n. nat_le (level_of words n) (level_of words root) && is_sound_node last words n)
    (nodes last)

-- A node has 12 words and a lock. Two more words are the root's number, and the count of nodes in
-- use besides node 0. Each of them has a lock too.
abbrev pub tree : Structure TreeMethod
tree = record {
  name = codes "tree";
  limits = is_within;
  methods = Insert ∷ Delete ∷ Lookup ∷ [];
  called = called;
  arity = arity;
  takes = takes;
  commits = commits;
  next = next;
  answer = answer;
  plain_words = λ size. 12 * size + 2;
  locks = λ size. size + 2;
  parts = chain_parts;
  is_sound = is_tree;
}
