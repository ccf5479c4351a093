-- What callers of the tree leave to one another: what a caller relies on while the others act, and
-- what each of its own acts leaves alone. The memories are those that callers see.
use Rattle.std.specs.Prelude.{◌≡◌, ◌≢◌, ℕ, ◌+◌, ◌*◌, ◌<◌, ◌≤◌, true, false, Some}
use Rattle.vyrd_base.specs.declared.header.Header.{Header}
use Rattle.vyrd_memory.specs.Alone.{Memory}
use Rattle.vyrd_memory.specs.Soundness.{Situation, holds}
use Rattle.vyrd_tree.specs.Cells.{root_cell, used_cell, lock_of, root_lock, used_lock}
use Rattle.vyrd_tree.specs.Contents.{level_at, last_in, root_in}
use Rattle.vyrd_every.specs.Trees.Shapes.{Shape, IsLinked, Hangs}
use Rattle.vyrd_every.specs.Trees.Locals.{TreeLocals}

-- What stays true for good, so that it outlives locks: linked nodes stay linked, with their low and
-- their level, and the root that the log shows doesn't sink.
pub record Grows (g : Shape) (m : Memory) (g' : Shape) (m' : Memory) : Type 0 where
  pub linked : (n : ℕ) → g.linked n ≡ true → g'.linked n ≡ true
  pub low : (n : ℕ) → g.linked n ≡ true → g'.low n ≡ g.low n
  pub level : (n : ℕ) → g.linked n ≡ true → level_at m' n ≡ level_at m n
  pub top : g.top ≤ g'.top

-- What a caller relies on between two of its acts. The words of linked nodes whose lock it holds
-- stay as they are, and the root's word and the count of nodes in use under their locks. The node
-- that it took stays its own, and the one that hangs goes on to hang. The memory holds a tree, and
-- a caller that holds the root's lock, and hasn't stored a new root in an open block, sees the root
-- that the log shows.
pub record TreeRely (h : Header) (s : Situation) (k : TreeLocals) (g : Shape) (m : Memory)
    (g' : Shape) (m' : Memory) : Type 0 where
  pub grows : Grows g m g' m'
  pub held : (n place : ℕ) → g.linked n ≡ true → holds s (lock_of h n) ≡ true → place < 12
      → m' (12 * n + place) ≡ m (12 * n + place)
  pub fresh : (n : ℕ) → k.fresh ≡ Some n → g'.linked n ≡ g.linked n
  pub used : (n : ℕ) → k.fresh ≡ Some n → n ≤ last_in h.size m → n ≤ last_in h.size m'
  pub hanging : (n : ℕ) → k.hanging ≡ Some n → Hangs g m n → Hangs g' m' n
  pub root : holds s (root_lock h) ≡ true → (m' (root_cell h) ≡ m (root_cell h)) × (g'.top ≡ g.top)
  pub count : holds s (used_lock h) ≡ true → m' (used_cell h) ≡ m (used_cell h)
  pub tree : IsLinked h.size g' m'
  pub calm : holds s (root_lock h) ≡ true → k.out ≡ false → g'.top ≡ level_at m' (root_in h.size m')

-- What an act of a caller leaves alone: the words of linked nodes whose lock it doesn't hold, nodes
-- that others have taken, those that hang for others, and the root's word and the count of nodes in
-- use without their locks. No node in use becomes unused.
pub record TreeLeaves (h : Header) (s : Situation) (k : TreeLocals) (g : Shape) (m : Memory)
    (g' : Shape) (m' : Memory) : Type 0 where
  pub others : (n place : ℕ) → g.linked n ≡ true → holds s (lock_of h n) ≡ false → place < 12
      → m' (12 * n + place) ≡ m (12 * n + place)
  pub unlinked : (n : ℕ) → g.linked n ≡ false → k.fresh ≢ Some n → g'.linked n ≡ false
  pub used : last_in h.size m ≤ last_in h.size m'
  pub hanging : (n : ℕ) → g.linked n ≡ true → k.hanging ≢ Some n → Hangs g m n → Hangs g' m' n
  pub root : holds s (root_lock h) ≡ false → (m' (root_cell h) ≡ m (root_cell h)) × (g'.top ≡ g.top)
  pub count : holds s (used_lock h) ≡ false → m' (used_cell h) ≡ m (used_cell h)
