-- How much the parts of a slot and of a node give to a key, and what follows a node on the chain.
use Rattle.vyrd_base.proofs.Prelude.{◌≡◌, ℕ, zero, suc, ◌+◌, ◌*◌, ◌^◌, ◌≤◌, min, Bool, true, false}
use Rattle.vyrd_base.proofs.Prelude.{List, [], ◌∷◌, refl, arith, flat_map, map, slice_index}
use Rattle.vyrd_base.proofs.Prelude.{numbers_from, numbers_below, Amounts, amount_of, collected}
use Rattle.vyrd_base.proofs.Prelude.{given, slot_parts, entry_parts, node_parts, chain_parts_from}
use Rattle.vyrd_base.proofs.Prelude.{added, below_of}
use Rattle.vyrd_base.specs.Tree.{node_word, count_of, right_of, damage}
use Rattle.vyrd_base.proofs.AddedLaws.{amount_of-added}
use Rattle.vyrd_base.proofs.SumLaws.{given_at_most, amount_of-collected, one_at_most}

slot_at_most : (words : List ℕ) (q i : ℕ) → given q (slot_parts words i) ≤ 1
slot_at_most words q i = grind (arith, given, one_at_most)

-- n slots give a value n at most
pub slots_at_most : (words : List ℕ) (n q : ℕ)
    → amount_of (collected (flat_map (slot_parts words) (numbers_below n))) q ≤ n
slots_at_most words n q =
    omega (
      arith,
      amount_of-collected (flat_map (slot_parts words) (numbers_below n)) q,
      given_at_most (slot_parts words) 1 q 0 n (slot_at_most words q),
    )

entry_at_most : (q : ℕ) (entry : ℕ × ℕ) → given q (entry_parts entry) ≤ 2 ^ 33
entry_at_most q entry = grind (arith, given, one_at_most, below_of)

-- the parts of the entry in this place of a node
abbrev pub place_parts : List ℕ → ℕ → ℕ → List (ℕ × ℕ)
place_parts words n j = entry_parts (node_word words n (4 + j), node_word words n (8 + j))

-- the words of an entry, as they are read
pub place_is : (words : List ℕ) (n j : ℕ)
    → entry_parts (slice_index words (12 * n + 4 + j), slice_index words (12 * n + 8 + j))
    ≡ place_parts words n j
place_is words n j = grind arith

entries-places : (words : List ℕ) (n k m : ℕ)
    → flat_map entry_parts (map (λ j. (node_word words n (4 + j), node_word words n (8 + j)))
    (numbers_from k m))
    ≡ flat_map (place_parts words n) (numbers_from k m)
entries-places words n k zero = refl
entries-places words n k (suc m) = cc (entries-places words n (k + 1) m)

-- a node's parts, place by place
pub node_parts-places : (words : List ℕ) (n : ℕ) → node_parts words n
    ≡ flat_map (place_parts words n) (numbers_below (min (count_of words n) 4))
node_parts-places words n = entries-places words n 0 (min (count_of words n) 4)

pub places_at_most : (words : List ℕ) (n m q : ℕ)
    → given q (flat_map (place_parts words n) (numbers_below m)) ≤ m * 2 ^ 33
places_at_most words n m q = grind (arith, given_at_most, entry_at_most)

node_at_most : (words : List ℕ) (n q : ℕ) → given q (node_parts words n) ≤ 2 ^ 35
node_at_most words n q = search (node_parts-places, places_at_most, arith)

-- a node adds little
pub node_grows : (words : List ℕ) (n turn q : ℕ) (s t : Amounts) → t ≡ added s (node_parts words n)
    → amount_of s q ≤ turn * 2 ^ 35 → amount_of t q ≤ (turn + 1) * 2 ^ 35
node_grows words n turn q s t more few = grind (arith, more, few, amount_of-added, node_at_most)

-- what follows a node, by whether the chain ends there and whether its link goes back or past the
-- nodes
abbrev pub parts_after : ℕ → List ℕ → ℕ → List ℕ → ℕ → Bool → Bool → List (ℕ × ℕ)
parts_after size words left seen n ends back = elim ends [
  | true ↦ []
  | false ↦ elim back [
    | true ↦ damage
    | false ↦ chain_parts_from size words left (n ∷ seen) (right_of words n)
  ]
]
