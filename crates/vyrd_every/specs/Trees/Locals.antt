-- The locals of a caller of the tree, and which words it may load and store.
use Rattle.std.specs.Prelude.{◌≡◌, ◌≢◌, ◌⊎◌, ℕ, ◌<◌, ◌≤◌, Bool, true, false, List, [], Option, Some}
use Rattle.std.specs.Prelude.{None}
use Rattle.vyrd_base.specs.declared.header.Header.{Header}
use Rattle.vyrd_base.specs.Callers.{Called}
use Rattle.vyrd_memory.specs.Alone.{Memory}
use Rattle.vyrd_memory.specs.Soundness.{Situation, holds, at_rest}
use Rattle.vyrd_tree.specs.Cells.{node_cell, root_cell, used_cell, lock_of, root_lock, used_lock}
use Rattle.vyrd_tree.specs.Contents.{level_at, last_in}
use Rattle.vyrd_every.specs.Trees.Shapes.{Shape, Hangs}

-- What is local to a caller beside its locks: a node that it took and hasn't linked; a linked node
-- whose entry above only it may add; its writes since its last open, and whether callers see them
-- already; its open call; and an observer's answer.
pub record TreeLocals : Type 0 where
  pub fresh : Option ℕ
  pub hanging : Option ℕ
  pub pending : List (ℕ × ℕ)
  pub out : Bool
  pub called : Option Called
  pub answered : Option ℕ

-- the locals of a caller before its first operation
abbrev pub empty_tree_locals : TreeLocals
empty_tree_locals = record {
  fresh = None;
  hanging = None;
  pending = [];
  out = false;
  called = None;
  answered = None;
}

-- the caller owns no node and has no call open, and no lock is held
pub record TreeRests (s : Situation) (k : TreeLocals) : Type 0 where
  pub rests : s ≡ at_rest
  pub fresh : k.fresh ≡ None
  pub hanging : k.hanging ≡ None
  pub called : k.called ≡ None
  pub quiet : k.out ≡ false

-- What locals say of the nodes: the node that was taken is among those in use and isn't linked, and
-- the other one is linked and hangs.
pub record Owns (h : Header) (k : TreeLocals) (g : Shape) (m : Memory) : Type 0 where
  pub fresh : (n : ℕ) → k.fresh ≡ Some n → (g.linked n ≡ false) × (n ≤ last_in h.size m)
  pub hanging : (n : ℕ) → k.hanging ≡ Some n → (g.linked n ≡ true) × Hangs g m n

-- the locals of two callers have no node in common
pub record AreApart (k other : TreeLocals) : Type 0 where
  pub fresh : (n : ℕ) → other.fresh ≡ Some n → k.fresh ≢ Some n
  pub hanging : (n : ℕ) → other.hanging ≡ Some n → k.hanging ≢ Some n

-- the cell is a word of the node
pub record IsWordOf (node cell : ℕ) : Type 0 where
  pub place : ℕ
  pub low : place < 12
  pub is : cell ≡ node_cell node place

-- a word that may be loaded of a node: any one of a linked node whose lock is held, and the level
-- of any linked node
pub record OfNode (h : Header) (s : Situation) (g : Shape) (cell : ℕ) : Type 0 where
  pub node : ℕ
  pub place : ℕ
  pub is : cell ≡ node_cell node place
  pub low : place < 12
  pub linked : g.linked node ≡ true
  pub may : (holds s (lock_of h node) ≡ true) ⊎ (place ≡ 0)

-- a word that may be loaded: of a node, the root's word, and, under its lock, the count of nodes in
-- use
abbrev pub MayLoad : Header → Situation → Shape → ℕ → Type 0
MayLoad h s g cell = OfNode h s g cell ⊎ (cell ≡ root_cell h)
    ⊎ ((cell ≡ used_cell h) × (holds s (used_lock h) ≡ true))

-- a word that may be stored of a node: any one of the node that was taken, and any but the level of
-- a linked node whose lock is held and which isn't above the root that the log shows
pub record InNode (h : Header) (s : Situation) (k : TreeLocals) (g : Shape) (m : Memory)
    (cell : ℕ) : Type 0 where
  pub node : ℕ
  pub place : ℕ
  pub is : cell ≡ node_cell node place
  pub low : place < 12
  pub may : (k.fresh ≡ Some node)
      ⊎ ((g.linked node ≡ true) × (holds s (lock_of h node) ≡ true) × (place ≢ 0)
      × (level_at m node ≤ g.top))

-- A word that may be stored: in a block whose writes aren't seen yet, one of a node, or the root's
-- word under its lock; and outside of blocks the count of nodes in use, under its lock.
abbrev pub MayStore : Header → Situation → TreeLocals → Shape → Memory → ℕ → Type 0
MayStore h s k g m cell =
    ((s.in_block ≡ true) × (k.out ≡ false)
    × (InNode h s k g m cell ⊎ ((cell ≡ root_cell h) × (holds s (root_lock h) ≡ true))))
    ⊎ ((s.in_block ≡ false) × (cell ≡ used_cell h) × (holds s (used_lock h) ≡ true))
