-- The tree in the memory, between any two events. Only linked nodes are spoken of: those that the
-- root, right links and entries lead to. A node that a caller has taken and not linked yet is
-- nobody else's concern.
use Rattle.std.specs.Prelude.{◌≡◌, ◌≢◌, ℕ, ◌+◌, ◌<◌, ◌≤◌, Bool, true, List, length}
use Rattle.std.specs.List.{AllByRecursion}
use Rattle.vyrd_memory.specs.Alone.{Memory}
use Rattle.vyrd_tree.specs.Contents.{level_at, count_at, bound_at, right_at, last_in, root_in}
use Rattle.vyrd_tree.specs.Contents.{Rising, InRange, BeginsAt, IsLeafEntry, entries_at}

-- What no word says: which nodes are linked; the low of each, the least key that it may have, which
-- never changes; and the level of the root that the log shows. Callers load a new root before its
-- block is closed, and the log shows it after.
pub record Shape : Type 0 where
  pub linked : ℕ → Bool
  pub low : ℕ → ℕ
  pub top : ℕ

-- an entry of an inner node leads to a linked node one level lower, and its key is that node's low
pub record LeadsDown (g : Shape) (m : Memory) (above : ℕ) (entry : ℕ × ℕ) : Type 0 where
  pub linked : g.linked entry.1 ≡ true
  pub lower : level_at m entry.1 + 1 ≡ above
  pub key_is : g.low entry.1 ≡ entry.0

-- an inner node has at least two entries, and the first is at its low
pub record IsInner (g : Shape) (m : Memory) (above from : ℕ) (entries : List (ℕ × ℕ)) : Type 0 where
  pub two : 2 ≤ length entries
  pub first : BeginsAt from entries
  pub child : AllByRecursion (LeadsDown g m above) entries

-- The entries of a node, from its level, its low and its bound: their keys rise from the low on,
-- below the bound.
pub record HasEntries (g : Shape) (m : Memory) (above from bound : ℕ)
    (entries : List (ℕ × ℕ)) : Type 0 where
  pub rise : Rising entries
  pub in_range : AllByRecursion (InRange from bound) entries
  pub leaf : above ≡ 0 → AllByRecursion IsLeafEntry entries
  pub inner : above ≢ 0 → IsInner g m above from entries

-- a right link leads to a linked node of the same level, which begins where this one ends
pub record LeadsRight (g : Shape) (m : Memory) (n : ℕ) : Type 0 where
  pub linked : g.linked (right_at m n) ≡ true
  pub same_level : level_at m (right_at m n) ≡ level_at m n
  pub begins : g.low (right_at m n) ≡ bound_at m n
  pub above : g.low n < bound_at m n

-- the node whose right link leads to this one
pub record HasNeighbour (g : Shape) (m : Memory) (n : ℕ) : Type 0 where
  pub node : ℕ
  pub linked : g.linked node ≡ true
  pub leads : right_at m node ≡ n
  pub some : n ≢ 0

-- The memory holds a tree of the linked nodes. There is room for them, and they are among those in
-- use. Node 0 is the first leaf, and the root is the first node of the highest level. Each node has
-- a right link or no bound, each but the first of a level has a left neighbour, and each has at
-- most four entries.
pub record IsLinked (size : ℕ) (g : Shape) (m : Memory) : Type 0 where
  pub last_low : last_in size m < size
  pub taken : (n : ℕ) → g.linked n ≡ true → n ≤ last_in size m
  pub zero_linked : g.linked 0 ≡ true
  pub root_linked : g.linked (root_in size m) ≡ true
  pub root_first : g.low (root_in size m) ≡ 0
  pub zero_leaf : level_at m 0 ≡ 0
  pub highest : (n : ℕ) → g.linked n ≡ true → level_at m n ≤ level_at m (root_in size m)
  pub shown_top : g.top ≤ level_at m (root_in size m)
  pub ends : (n : ℕ) → g.linked n ≡ true → right_at m n ≡ 0 → bound_at m n ≡ 0
  pub link : (n : ℕ) → g.linked n ≡ true → right_at m n ≢ 0 → LeadsRight g m n
  pub left : (n : ℕ) → g.linked n ≡ true → g.low n ≢ 0 → HasNeighbour g m n
  pub one_first : (a b : ℕ) → g.linked a ≡ true → g.linked b ≡ true → level_at m a ≡ level_at m b
      → g.low a ≡ 0 → g.low b ≡ 0 → a ≡ b
  pub few : (n : ℕ) → g.linked n ≡ true → count_at m n ≤ 4
  pub entries : (n : ℕ) → g.linked n ≡ true
      → HasEntries g m (level_at m n) (g.low n) (bound_at m n) (entries_at m n)

-- no entry of an inner node leads to the node
abbrev pub Unnamed : Shape → Memory → ℕ → Type 0
Unnamed g m n = (p : ℕ) → g.linked p ≡ true → level_at m p ≢ 0
    → AllByRecursion (λ entry. entry.1 ≢ n) (entries_at m p)

-- The node hangs on its left neighbour alone: a split made it, and its entry above is still to
-- come. The first node of a level has no left neighbour.
abbrev pub Hangs : Shape → Memory → ℕ → Type 0
Hangs g m n = (g.low n ≢ 0) × Unnamed g m n
