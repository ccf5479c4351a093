-- Proofs of laws that an impl in src/ names: no contract says what is defined here. What a tree in
-- words shows: the chain from node 0 visits each leaf once, so a key has the amount that the leaf
-- of its range gives.
use Rattle.std.proofs.Common.{◌≡◌, ◌≢◌, ℕ, zero, suc, ◌+◌, ◌<◌, ◌≤◌, ◌⊎◌, inl, inr}
use Rattle.std.proofs.Common.{false, List, [], ◌∷◌, map, min, refl, ap, ◌∙◌, sym, arith}
use Rattle.std.specs.Prelude.{◌==◌, ◌||◌, nat_le, flat_map}
use Rattle.std.specs.Prelude.{slice_index}
use Rattle.std.specs.List.{list_any}
use Rattle.vyrd_base.specs.Places.{numbers_from}
use Rattle.vyrd_base.specs.Tree.{right_of, entry_parts, node_parts, chain_parts_from}
use Rattle.vyrd_base.specs.Tree.{chain_parts}
use Rattle.vyrd_base.specs.Amounts.{given}
use Rattle.vyrd_base.proofs.PartLaws.{parts_after}
use Rattle.vyrd_base.proofs.SumLaws.{given-append}
use Rattle.vyrd_base.proofs.TestLaws.{is_same, isnt_same, isnt_at_most}
use Rattle.vyrd_memory.specs.Alone.{Memory}
use Rattle.vyrd_tree.specs.Laws.Alone.Counts.{zero_or, le_or}
use Rattle.vyrd_tree.specs.Contents.{level_at, count_at, bound_at, right_at, key_at, value_at}
use Rattle.vyrd_tree.specs.Contents.{last_in, InRange, LeadsOn, IsTree, entries_at, Covers, gives}
use Rattle.vyrd_tree.specs.Laws.Alone.Order.{after_of, after_falls, after_few, one_cover, zero_low}
use Rattle.vyrd_tree.specs.Laws.Alone.Entries.{gives_none, each_more}

-- the parts of a node are what its entries give
pub parts_at : (size : ℕ) (words : List ℕ) (low : ℕ → ℕ) → IsTree size (slice_index words) low
    → (q n : ℕ)
    → n ≤ last_in size (slice_index words)
    → given q (node_parts words n) ≡ gives q (entries_at (slice_index words) n)
parts_at size words low t q n used =
    ap (λ many. given q (flat_map entry_parts (map (λ j.
    (key_at (slice_index words) n j, value_at (slice_index words) n j)) (numbers_from 0 many))))
    (least (count_at (slice_index words) n) (t.few n used))
  where
    least : (a : ℕ) → a ≤ 4 → min a 4 ≡ a
    least a le = omega arith

-- a leaf gives nothing to a key that is not in its range
pub out_of_range : (size : ℕ) (m : Memory) (low : ℕ → ℕ) → IsTree size m low → (q n : ℕ)
    → n ≤ last_in size m → level_at m n ≡ 0 → (Covers m low n q → ⊥)
    → gives q (entries_at m n) ≡ 0
out_of_range size m low t q n used leaf out =
    let es = t.entries n used in
    gives_none q (entries_at m n) (es.leaf leaf)
    (each_more (InRange (low n) (bound_at m n)) (λ entry. entry.0 ≢ q) (λ entry is e. out (record {
      from = (let from = is.0 in omega arith);
      to = λ some. (let to = is.1 some in omega arith);
    })) (entries_at m n) es.in_range)

-- a node where the chain has come, and what it has seen: no node that begins as high
pub record OnChain (size : ℕ) (m : Memory) (low : ℕ → ℕ) (left : ℕ) (seen : List ℕ)
    (n : ℕ) : Type 0 where
  pub in_use : n ≤ last_in size m
  pub leaf : level_at m n ≡ 0
  pub more : after_of (last_in size m) m low n < left
  pub unseen : (x : ℕ) → x ≤ last_in size m → low n ≤ low x → list_any (λ y. y == x) seen ≡ false

next_on_chain : (size : ℕ) (m : Memory) (low : ℕ → ℕ) (left : ℕ) (seen : List ℕ) (n : ℕ)
    → OnChain size m low (suc left) seen n → LeadsOn (last_in size m) m low n
    → OnChain size m low left (n ∷ seen) (right_at m n)
next_on_chain size m low left seen n here on = record {
  in_use = on.in_use;
  leaf = on.same_level ∙ here.leaf;
  more = (let falls = after_falls (last_in size m) m low n (right_at m n) on.in_use
      (inr (on.same_level, rises)) in
      let more = here.more in omega arith);
  unseen = λ x used le. ap (λ b. b || list_any (λ y. y == x) seen)
      (isnt_same n x (λ e. (let same = ap low e in omega (arith, rises))))
      ∙ here.unseen x used (omega (arith, rises));
}
  where
    rises : low n < low (right_at m n)
    rises = let above = on.above in let begins = on.begins in omega arith

-- what a node gives with what follows it: nothing where the chain ends
pub step_ends : (size : ℕ) (words : List ℕ) (left : ℕ) (seen : List ℕ) (q n : ℕ)
    → right_of words n ≡ 0
    → given q (chain_parts_from size words (suc left) seen n) ≡ given q (node_parts words n)
step_ends size words left seen q n ends =
    given-append q (node_parts words n) (parts_after size words left seen n (right_of words n == 0)
    (nat_le size (right_of words n) || list_any (λ y. y == right_of words n) (n ∷ seen)))
    ∙ ap (λ b. given q (node_parts words n) + given q (parts_after size words left seen n b
    (nat_le size (right_of words n) || list_any (λ y. y == right_of words n) (n ∷ seen))))
    (is_same (right_of words n) 0 ends)
    ∙ plus_none (given q (node_parts words n))
  where
    plus_none : (n : ℕ) → n + 0 ≡ n
    plus_none n = omega arith

-- and otherwise the rest of the chain
pub step_on : (size : ℕ) (words : List ℕ) (left : ℕ) (seen : List ℕ) (q n : ℕ)
    → right_of words n ≢ 0
    → (nat_le size (right_of words n) || list_any (λ y. y == right_of words n) (n ∷ seen)) ≡ false
    → given q (chain_parts_from size words (suc left) seen n)
    ≡ given q (node_parts words n) + given q
    (chain_parts_from size words left (n ∷ seen) (right_of words n))
step_on size words left seen q n on fresh =
    given-append q (node_parts words n) (parts_after size words left seen n (right_of words n == 0)
    (nat_le size (right_of words n) || list_any (λ y. y == right_of words n) (n ∷ seen)))
    ∙ ap (λ b. given q (node_parts words n)
    + given q (parts_after size words left seen n b (nat_le size (right_of words n)
    || list_any (λ y. y == right_of words n) (n ∷ seen)))) (isnt_same (right_of words n) 0 on)
    ∙ ap (λ b. given q (node_parts words n) + given q (parts_after size words left seen n false b))
    fresh

fresh_link : (size : ℕ) (words : List ℕ) (low : ℕ → ℕ) (left : ℕ) (seen : List ℕ) (n : ℕ)
    → IsTree size (slice_index words) low
    → OnChain size (slice_index words) low left (n ∷ seen) (right_of words n)
    → (nat_le size (right_of words n) || list_any (λ y. y == right_of words n) (n ∷ seen)) ≡ false
fresh_link size words low left seen n t next =
    ap (λ b. b || list_any (λ y. y == right_of words n) (n ∷ seen))
    (isnt_at_most size (right_of words n) (let used = next.in_use in
    let fits = t.last_low in omega arith))
    ∙ next.unseen (right_of words n) next.in_use (omega arith)

-- the chain from a node on gives nothing to a key below the node's low
chain_none : (size : ℕ) (words : List ℕ) (low : ℕ → ℕ) → IsTree size (slice_index words) low
    → (left : ℕ) (seen : List ℕ) (q n : ℕ) → OnChain size (slice_index words) low left seen n
    → q < low n
    → given q (chain_parts_from size words left seen n) ≡ 0
chain_none size words low t zero seen q n here lt = refl
chain_none size words low t (suc left) seen q n here lt =
    by_right (zero_or (right_of words n))
    (chain_none size words low t left (n ∷ seen) q (right_of words n))
  where
    m : Memory
    m = slice_index words

    this : given q (node_parts words n) ≡ 0
    this = parts_at size words low t q n here.in_use
        ∙ out_of_range size m low t q n here.in_use here.leaf
        (λ over. (let from = over.from in omega (arith, lt, from)))

    by_right : (right_of words n ≡ 0) ⊎ (right_of words n ≢ 0)
        → (OnChain size m low left (n ∷ seen) (right_of words n) → q < low (right_of words n)
        → given q (chain_parts_from size words left (n ∷ seen) (right_of words n)) ≡ 0)
        → given q (chain_parts_from size words (suc left) seen n) ≡ 0
    by_right (inl ends) later = step_ends size words left seen q n ends ∙ this
    by_right (inr on) later =
        let link = t.link n here.in_use on in
        let next = next_on_chain size m low left seen n here link in
        let rest =
        later next (let begins = link.begins in let above = link.above in omega (arith, lt)) in
        step_on size words left seen q n on (fresh_link size words low left seen n t next)
        ∙ plus this rest
      where
        plus : {a b : ℕ} → a ≡ 0 → b ≡ 0 → a + b ≡ 0
        plus e f = omega arith

-- from a node that begins at the key or below it gives what the leaf of the key's range gives
chain_gives : (size : ℕ) (words : List ℕ) (low : ℕ → ℕ) → IsTree size (slice_index words) low
    → (left : ℕ) (seen : List ℕ) (q n x : ℕ) → OnChain size (slice_index words) low left seen n
    → low n ≤ q → x ≤ last_in size (slice_index words) → level_at (slice_index words) x ≡ 0
    → Covers (slice_index words) low x q
    → given q (chain_parts_from size words left seen n) ≡ gives q (entries_at (slice_index words) x)
chain_gives size words low t zero seen q n x here from used leaf over =
    absurd (let more = here.more in omega arith)
chain_gives size words low t (suc left) seen q n x here from used leaf over =
    by_right (zero_or (right_of words n))
    (chain_gives size words low t left (n ∷ seen) q (right_of words n) x)
  where
    m : Memory
    m = slice_index words

    -- the node's range has the key
    at_x : Covers m low n q → gives q (entries_at m n) ≡ gives q (entries_at m x)
    at_x over_n = ap (λ y. gives q (entries_at m y))
        (one_cover size m low t n x q here.in_use used (here.leaf ∙ sym leaf) over_n over)

    by_bound : right_of words n ≢ 0 → LeadsOn (last_in size m) m low n
        → (OnChain size m low left (n ∷ seen) (right_of words n) → low (right_of words n) ≤ q
        → x ≤ last_in size m → level_at m x ≡ 0 → Covers m low x q
        → given q (chain_parts_from size words left (n ∷ seen) (right_of words n))
        ≡ gives q (entries_at m x))
        → (bound_at m n ≤ q) ⊎ (q < bound_at m n)
        → given q (chain_parts_from size words (suc left) seen n) ≡ gives q (entries_at m x)
    by_bound on link later (inl le) =
        let next = next_on_chain size m low left seen n here link in
        let above : low n < bound_at m n = link.above in
        let begins : low (right_at m n) ≡ bound_at m n = link.begins in
        let this : given q (node_parts words n) ≡ 0 = parts_at size words low t q n here.in_use
        ∙ out_of_range size m low t q n here.in_use here.leaf
        (λ over_n. (let to = over_n.to (omega arith) in omega (arith, le, to))) in
        let rest = later next (omega arith) used leaf over in
        step_on size words left seen q n on (fresh_link size words low left seen n t next)
        ∙ plus this rest
      where
        plus : {a b c : ℕ} → a ≡ 0 → b ≡ c → a + b ≡ c
        plus e f = omega arith
    by_bound on link later (inr lt) =
        let next = next_on_chain size m low left seen n here link in
        let begins : low (right_at m n) ≡ bound_at m n = link.begins in
        let rest =
        chain_none size words low t left (n ∷ seen) q (right_of words n) next (omega arith) in
        let this = parts_at size words low t q n here.in_use
        ∙ at_x (record { from = from; to = λ some. lt }) in
        step_on size words left seen q n on (fresh_link size words low left seen n t next)
        ∙ plus this rest
      where
        plus : {a b c : ℕ} → a ≡ c → b ≡ 0 → a + b ≡ c
        plus e f = omega arith

    by_right : (right_of words n ≡ 0) ⊎ (right_of words n ≢ 0)
        → (OnChain size m low left (n ∷ seen) (right_of words n) → low (right_of words n) ≤ q
        → x ≤ last_in size m → level_at m x ≡ 0 → Covers m low x q
        → given q (chain_parts_from size words left (n ∷ seen) (right_of words n))
        ≡ gives q (entries_at m x))
        → given q (chain_parts_from size words (suc left) seen n) ≡ gives q (entries_at m x)
    by_right (inl ends) later =
        let none = t.ends n here.in_use ends in
        step_ends size words left seen q n ends ∙ parts_at size words low t q n here.in_use
        ∙ at_x (record { from = from; to = λ some. absurd (some none) })
    by_right (inr on) later = by_bound on (t.link n here.in_use on) later (le_or (bound_at m n) q)

-- the whole chain gives a key what the leaf of its range gives
pub leaf_gives : (size : ℕ) (words : List ℕ) (low : ℕ → ℕ) → IsTree size (slice_index words) low
    → (q n : ℕ) → n ≤ last_in size (slice_index words) → level_at (slice_index words) n ≡ 0
    → Covers (slice_index words) low n q
    → given q (chain_parts size words) ≡ gives q (entries_at (slice_index words) n)
leaf_gives size words low t q n used leaf over =
    let m : Memory = slice_index words in
    let none = zero_low size m low t in
    let few = after_few (last_in size m) m low 0 (omega arith) in
    let fits = t.last_low in
    chain_gives size words low t size [] q 0 n
    (record {
      in_use = omega arith;
      leaf = t.zero_leaf;
      more = omega arith;
      unseen = λ x used le. refl;
    }) (omega (arith, none)) used leaf over
