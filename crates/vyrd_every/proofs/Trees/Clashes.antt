-- What one caller may load or store, no other caller's open block has written.
use Rattle.vyrd_every.proofs.Prelude.{◌≡◌, ◌≢◌, ℕ, ◌+◌, ◌*◌, ◌<◌, ◌≤◌, ◌⊎◌, inl, inr, true, false}
use Rattle.vyrd_every.proofs.Prelude.{Some, ap, ◌∙◌, sym, arith, Header, Memory, Situation, holds}
use Rattle.vyrd_every.proofs.Prelude.{root_cell, used_cell, lock_of, root_lock, level_at, root_in}
use Rattle.vyrd_every.proofs.Prelude.{Shape, IsLinked, TreeLocals, Owns, AreApart, IsWordOf}
use Rattle.vyrd_every.proofs.Prelude.{MayLoad, InNode, MayStore, MayHold, never}
use Rattle.vyrd_every.proofs.Trees.Kept.{linked_low}

-- two callers, each with its locals
pub record AreTwo (h : Header) (s its : Situation) (k other : TreeLocals) (g : Shape)
    (m : Memory) : Type 0 where
  pub tree : IsLinked h.size g m
  pub own : Owns h k g m
  pub its_own : Owns h other g m
  pub apart : AreApart k other
  pub locks : (lock : ℕ) → holds its lock ≡ true → holds s lock ≡ false
  pub its_root : other.out ≡ true → holds its (root_lock h) ≡ true
  pub ahead : other.out ≡ true → g.top < level_at m (root_in h.size m)

-- a word's node and place
one_node : (a i b j : ℕ) → 12 * a + i ≡ 12 * b + j → i < 12 → j < 12 → a ≡ b
one_node a i b j e low_i low_j = omega (arith, e, low_i, low_j)

one_place : (a i b j : ℕ) → 12 * a + i ≡ 12 * b + j → i < 12 → j < 12 → i ≡ j
one_place a i b j e low_i low_j = omega (arith, e, low_i, low_j)

fresh_low : (h : Header) (k : TreeLocals) (g : Shape) (m : Memory) (n : ℕ) → IsLinked h.size g m
    → Owns h k g m → k.fresh ≡ Some n → n < h.size
fresh_low h k g m n tree own mine = grind (arith, (own.fresh n mine).1, tree.last_low)

-- the node of a word that a block may have written
in_node_low : (h : Header) (s : Situation) (k : TreeLocals) (g : Shape) (m : Memory) (cell : ℕ)
    → IsLinked h.size g m → Owns h k g m
    → (i : InNode h s k g m cell) → i.node < h.size
in_node_low h s k g m cell tree own i = by_may i.may
  where
    by_may : (k.fresh ≡ Some i.node)
        ⊎ ((g.linked i.node ≡ true) × (holds s (lock_of h i.node) ≡ true) × (i.place ≢ 0)
        × (level_at m i.node ≤ g.top))
        → i.node < h.size
    by_may (inl mine) = fresh_low h k g m i.node tree own mine
    by_may (inr linked) = linked_low h.size g m tree i.node linked.0

-- so neither the root's word nor the count of nodes in use is one
pub not_the_root : (h : Header) (s : Situation) (k : TreeLocals) (g : Shape) (m : Memory) (cell : ℕ)
    → IsLinked h.size g m → Owns h k g m
    → InNode h s k g m cell → cell ≡ root_cell h → ⊥
not_the_root h s k g m cell tree own i at =
    grind (arith, in_node_low h s k g m cell tree own i, i.is, i.low)

not_the_count : (h : Header) (s : Situation) (k : TreeLocals) (g : Shape) (m : Memory) (cell : ℕ)
    → IsLinked h.size g m → Owns h k g m
    → InNode h s k g m cell → cell ≡ used_cell h → ⊥
not_the_count h s k g m cell tree own i at =
    grind (arith, in_node_low h s k g m cell tree own i, i.is, i.low)

-- two words of nodes, the second in another caller's block
two_nodes : (h : Header) (s its : Situation) (k other : TreeLocals) (g : Shape) (m : Memory)
    (cell : ℕ) → AreTwo h s its k other g m
    → InNode h s k g m cell → InNode h its other g m cell → ⊥
two_nodes h s its k other g m cell two i j = by_may i.may j.may
  where
    same : i.node ≡ j.node
    same = one_node i.node i.place j.node j.place (sym i.is ∙ j.is) i.low j.low

    Mine : Situation → TreeLocals → ℕ → ℕ → Type 0
    Mine s k node place = (k.fresh ≡ Some node)
        ⊎ ((g.linked node ≡ true) × (holds s (lock_of h node) ≡ true) × (place ≢ 0)
        × (level_at m node ≤ g.top))

    by_may : Mine s k i.node i.place → Mine its other j.node j.place → ⊥
    by_may (inl mine) (inl theirs) = two.apart.fresh j.node theirs (mine ∙ ap Some same)
    by_may (inl mine) (inr linked) = search (never, arith)
    by_may (inr linked) (inl theirs) = search (never, arith)
    by_may (inr mine) (inr theirs) = search (never, lock_of, arith)

-- a word of the new root isn't in another caller's node
new_root : (h : Header) (s its : Situation) (k other : TreeLocals) (g : Shape) (m : Memory)
    (cell : ℕ) → AreTwo h s its k other g m → other.out ≡ true
    → InNode h s k g m cell → IsWordOf (root_in h.size m) cell → ⊥
new_root h s its k other g m cell two out i word = search (lock_of, never, arith)

-- what a caller may store
pub no_clash : (h : Header) (s its : Situation) (k other : TreeLocals) (g : Shape) (m : Memory)
    (cell : ℕ) → AreTwo h s its k other g m
    → MayStore h s k g m cell → MayHold h its other g m cell → ⊥
no_clash h s its k other g m cell two (inl inside) hold = by_word inside.2 hold
  where
    by_word : InNode h s k g m cell ⊎ ((cell ≡ root_cell h) × (holds s (root_lock h) ≡ true))
        → MayHold h its other g m cell → ⊥
    by_word (inl i) (inl quiet) = two_nodes h s its k other g m cell two i quiet.1
    by_word (inl i) (inr out) = by_out out.1
      where
        by_out : (cell ≡ root_cell h) ⊎ IsWordOf (root_in h.size m) cell → ⊥
        by_out e0 = search (not_the_root, new_root, arith)
    by_word (inr root) (inl quiet) = search (not_the_root, arith)
    by_word (inr root) (inr out) = never (two.locks (root_lock h) (two.its_root out.0)) root.1
no_clash h s its k other g m cell two (inr outside) (inl quiet) = search (not_the_count, arith)
no_clash h s its k other g m cell two (inr outside) (inr out) = by_out out.1
  where
    by_out : (cell ≡ root_cell h) ⊎ IsWordOf (root_in h.size m) cell → ⊥
    by_out (inl root) = grind (arith, outside.1)
    by_out (inr word) = search (linked_low, arith)

-- what a caller may load, where the other's writes aren't seen yet
pub no_clash_load : (h : Header) (s its : Situation) (k other : TreeLocals) (g : Shape) (m : Memory)
    (cell : ℕ) → AreTwo h s its k other g m
    → MayLoad h s g cell → InNode h its other g m cell → ⊥
no_clash_load h s its k other g m cell two (inl of_node) j = by_may of_node.may j.may
  where
    by_may : (holds s (lock_of h of_node.node) ≡ true) ⊎ (of_node.place ≡ 0)
        → (other.fresh ≡ Some j.node)
        ⊎ ((g.linked j.node ≡ true) × (holds its (lock_of h j.node) ≡ true) × (j.place ≢ 0)
        × (level_at m j.node ≤ g.top)) → ⊥
    by_may held (inl theirs) = search (never, arith)
    by_may (inl held) (inr theirs) = search (never, lock_of, held, arith)
    by_may (inr level) (inr theirs) = search (one_place, arith)
no_clash_load h s its k other g m cell two (inr (inl root)) j = search (not_the_root, arith)
no_clash_load h s its k other g m cell two (inr (inr count)) j = search (not_the_count, arith)
