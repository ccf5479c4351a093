-- What a memory of a tree holds: what is said of each node in use, and a memory that represents a
-- state. A node's low is the least key that it may have.
use Rattle.std.specs.Prelude.{◌≡◌, ◌≢◌, ℕ, ◌+◌, ◌*◌, ◌^◌, ◌<◌, ◌≤◌, ⊤, List, [], ◌∷◌, length, map}
use Rattle.std.specs.Prelude.{flat_map}
use Rattle.std.specs.List.{AllByRecursion}
use Rattle.vyrd_base.specs.declared.header.Header.{Header}
use Rattle.vyrd_base.specs.Places.{numbers_from}
use Rattle.vyrd_base.specs.Amounts.{Amounts, IsAmounts, amount_of, given}
use Rattle.vyrd_base.specs.Tree.{entry_parts}
use Rattle.vyrd_memory.specs.Alone.{Memory}

-- the words of node n
abbrev pub level_at : Memory → ℕ → ℕ
level_at m n = m (12 * n + 0)

abbrev pub count_at : Memory → ℕ → ℕ
count_at m n = m (12 * n + 1)

abbrev pub bound_at : Memory → ℕ → ℕ
bound_at m n = m (12 * n + 2)

abbrev pub right_at : Memory → ℕ → ℕ
right_at m n = m (12 * n + 3)

abbrev pub key_at : Memory → ℕ → ℕ → ℕ
key_at m n j = m (12 * n + (4 + j))

abbrev pub value_at : Memory → ℕ → ℕ → ℕ
value_at m n j = m (12 * n + (8 + j))

-- the root's number, and the last node in use
abbrev pub root_in : ℕ → Memory → ℕ
root_in size m = m (12 * size)

abbrev pub last_in : ℕ → Memory → ℕ
last_in size m = m (12 * size + 1)

-- whether a bound, which is 0 if there is none, lets the key in
abbrev pub Below : ℕ → ℕ → Type 0
Below key bound = bound ≢ 0 → key < bound

-- an entry of a leaf has numbers of 32 bits
pub record IsLeafEntry (entry : ℕ × ℕ) : Type 0 where
  pub key_low : entry.0 < 2 ^ 32
  pub value_low : entry.1 < 2 ^ 32

-- a child is in use and one level lower, and the entry's key is its low
pub record IsChild (last : ℕ) (level low : ℕ → ℕ) (above : ℕ) (entry : ℕ × ℕ) : Type 0 where
  pub in_use : entry.1 ≤ last
  pub lower : level entry.1 + 1 ≡ above
  pub key_is : low entry.1 ≡ entry.0

-- each key is above those before it
abbrev pub Rising : List (ℕ × ℕ) → Type 0
Rising [] = ⊤
Rising (entry ∷ entries) = AllByRecursion (λ later. entry.0 < later.0) entries × Rising entries

-- a key in the range of a node
abbrev pub InRange : ℕ → ℕ → ℕ × ℕ → Type 0
InRange from bound entry = (from ≤ entry.0) × Below entry.0 bound

-- the first key is the low
abbrev pub BeginsAt : ℕ → List (ℕ × ℕ) → Type 0
BeginsAt from [] = ⊥
BeginsAt from (entry ∷ entries) = entry.0 ≡ from

-- an inner node has at least two entries, the first at its low, and each leads to a child
pub record AreInner (last : ℕ) (level low : ℕ → ℕ) (above from : ℕ)
    (entries : List (ℕ × ℕ)) : Type 0 where
  pub two : 2 ≤ length entries
  pub first : BeginsAt from entries
  pub child : AllByRecursion (IsChild last level low above) entries

-- The entries of a node, from its level, its low and its bound: keys rise from the low on and stay
-- below the bound.
pub record AreEntries (last : ℕ) (level low : ℕ → ℕ) (above from bound : ℕ)
    (entries : List (ℕ × ℕ)) : Type 0 where
  pub rise : Rising entries
  pub in_range : AllByRecursion (InRange from bound) entries
  pub leaf : above ≡ 0 → AllByRecursion IsLeafEntry entries
  pub inner : above ≢ 0 → AreInner last level low above from entries

-- a right link leads to a node in use of the same level, which begins where this one ends
pub record LeadsOn (last : ℕ) (m : Memory) (low : ℕ → ℕ) (n : ℕ) : Type 0 where
  pub in_use : right_at m n ≤ last
  pub same_level : level_at m (right_at m n) ≡ level_at m n
  pub begins : low (right_at m n) ≡ bound_at m n
  pub above : low n < bound_at m n

-- the node whose right link leads to this one
pub record HasLeft (last : ℕ) (m : Memory) (n : ℕ) : Type 0 where
  pub node : ℕ
  pub in_use : node ≤ last
  pub leads : right_at m node ≡ n
  pub some : n ≢ 0

-- this many entries of a node in memory, from this place on
abbrev pub entries_from : Memory → ℕ → ℕ → ℕ → List (ℕ × ℕ)
entries_from m n place many = map (λ j. (key_at m n j, value_at m n j)) (numbers_from place many)

-- the entries of a node in memory
abbrev pub entries_at : Memory → ℕ → List (ℕ × ℕ)
entries_at m n = entries_from m n 0 (count_at m n)

abbrev pub AreEntriesAt : ℕ → Memory → (ℕ → ℕ) → ℕ → Type 0
AreEntriesAt last m low n =
    AreEntries last (level_at m) low (level_at m n) (low n) (bound_at m n) (entries_at m n)

-- The memory holds a tree of which these are the nodes' lows. A low of 0 is that of a chain's first
-- node.
pub record IsTree (size : ℕ) (m : Memory) (low : ℕ → ℕ) : Type 0 where
  pub last_low : last_in size m < size
  pub root_in_use : root_in size m ≤ last_in size m
  pub root_first : low (root_in size m) ≡ 0
  pub zero_leaf : level_at m 0 ≡ 0
  pub highest : (n : ℕ) → n ≤ last_in size m → level_at m n ≤ level_at m (root_in size m)
  pub ends : (n : ℕ) → n ≤ last_in size m → right_at m n ≡ 0 → bound_at m n ≡ 0
  pub link : (n : ℕ) → n ≤ last_in size m → right_at m n ≢ 0 → LeadsOn (last_in size m) m low n
  pub left : (n : ℕ) → n ≤ last_in size m → low n ≢ 0 → HasLeft (last_in size m) m n
  pub one_first : (a b : ℕ) → a ≤ last_in size m → b ≤ last_in size m → level_at m a ≡ level_at m b
      → low a ≡ 0 → low b ≡ 0 → a ≡ b
  pub few : (n : ℕ) → n ≤ last_in size m → count_at m n ≤ 4
  pub entries : (n : ℕ) → n ≤ last_in size m → AreEntriesAt (last_in size m) m low n

-- the key is in the range of the node
pub record Covers (m : Memory) (low : ℕ → ℕ) (n k : ℕ) : Type 0 where
  pub from : low n ≤ k
  pub to : Below k (bound_at m n)

-- the type of lists of entries
abbrev pub Entries : Type 0
Entries = List (ℕ × ℕ)

-- what a list of entries gives to a key
abbrev pub gives : ℕ → Entries → ℕ
gives q xs = given q (flat_map entry_parts xs)

-- The memory holds a tree that shows the state: each key has the amount that the leaf of its range
-- gives.
pub record ShowsBy (size : ℕ) (m : Memory) (low : ℕ → ℕ) (s : Amounts) : Type 0 where
  pub tree : IsTree size m low
  pub shows : (q n : ℕ) → n ≤ last_in size m → level_at m n ≡ 0 → Covers m low n q
      → amount_of s q ≡ gives q (entries_at m n)
  pub formed : IsAmounts s

-- It holds one, and all locks are free.
pub record TreeRepresents (h : Header) (m : Memory) (s : Amounts) : Type 0 where
  pub low : ℕ → ℕ
  pub held : ShowsBy h.size m low s
  pub free : (lock : ℕ) → 12 * h.size + 2 ≤ lock → lock < 13 * h.size + 4 → m lock ≡ 0
