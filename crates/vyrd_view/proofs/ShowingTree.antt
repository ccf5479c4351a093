-- The pairs of a tree's places give each key what the chain of leaves shows of it.
use Rattle.vyrd_view.proofs.Prelude
use Prelude.{◌≡◌, ℕ, zero, suc, ◌+◌, ◌*◌, ◌<◌, ◌≤◌, min, Bool, true, false, cond, ◌||◌, List, []}
use Prelude.{◌∷◌, ◌++◌, map, refl, ap, ◌∙◌, sym, arith, ◌==◌, nat_lt, nat_le, flat_map, list_any}
use Prelude.{or-false, numbers_below, count_of, right_of, node_parts, damage, chain_parts_from}
use Prelude.{chain_parts, given, part_given, given-append, nothing_given, same_of, apart_of}
use Prelude.{isnt_same, below_of, not_below_of, neither_true, above_of, chain_nodes_from}
use Prelude.{chain_breaks_from, is_on_chain, is_broken, entry_pair, end_pair, tree_pair}
use Prelude.{place_parts, node_parts-places, parts_after, given_map_push, given_flat_push}
use Rattle.vyrd_view.proofs.WalkLaws.{nodes_after, breaks_after}
use Rattle.vyrd_view.proofs.TreePairLaws.{tree_pair_end}

-- what an entry within the count gives
entry_within : (q : ℕ) (words : List ℕ) (n j : ℕ) → nat_lt j (count_of words n) ≡ true
    → part_given q (entry_pair words n j) ≡ given q (place_parts words n j)
entry_within q words n j low = grind (arith, given)

entry_past : (q : ℕ) (words : List ℕ) (n j : ℕ) → nat_lt j (count_of words n) ≡ false
    → part_given q (entry_pair words n j) ≡ 0
entry_past q words n j high = grind (arith, nothing_given)

-- what the first entries give
abbrev first_entries : ℕ → List ℕ → ℕ → ℕ → ℕ
first_entries q words n zero = 0
first_entries q words n (suc k) = first_entries q words n k + part_given q (entry_pair words n k)

entries_give : (q : ℕ) (words : List ℕ) (n k : ℕ) → first_entries q words n k
    ≡ given q (flat_map (place_parts words n) (numbers_below (min (count_of words n) k)))
entries_give q words n zero = grind arith
entries_give q words n (suc k) = by_test (nat_lt k _) refl (entries_give q words n k)
  where
    by_test : (b : Bool) → nat_lt k (count_of words n) ≡ b
        → first_entries q words n k
        ≡ given q (flat_map (place_parts words n) (numbers_below (min (count_of words n) k)))
        → first_entries q words n k + part_given q (entry_pair words n k)
        ≡ given q (flat_map (place_parts words n) (numbers_below (min (count_of words n) (suc k))))
    by_test true e before =
        grind (
          arith,
          below_of k (count_of words n) e,
          entry_within q words n k e,
          given_flat_push q
              (place_parts words n) k,
        )
    by_test false e before = search (not_below_of, entry_past, given, arith)

node_gives : (q : ℕ) (words : List ℕ) (n : ℕ) → first_entries q words n 4
    ≡ given q (node_parts words n)
node_gives q words n = entries_give q words n 4 ∙ sym (ap (given q) (node_parts-places words n))

-- what the nodes below k give that pass a test
abbrev marked_sum : ℕ → List ℕ → (ℕ → Bool) → ℕ → ℕ
marked_sum q words test zero = 0
marked_sum q words test (suc k) = marked_sum q words test k + cond (test k)
    (given q (node_parts words k)) 0

same_marks : (q : ℕ) (words : List ℕ) (f g : ℕ → Bool) (k : ℕ) → ((i : ℕ) → f i ≡ g i)
    → marked_sum q words f k ≡ marked_sum q words g k
same_marks q words f g k same = grind (arith, given)

no_marks : (q : ℕ) (words : List ℕ) (k : ℕ) → marked_sum q words (λ i. false) k ≡ 0
no_marks q words zero = refl
no_marks q words (suc k) = omega (arith, no_marks q words k)

-- a node above is none of those below
mark_above : (q : ℕ) (words : List ℕ) (f : ℕ → Bool) (m k : ℕ) → k ≤ m
    → marked_sum q words (λ i. (m == i) || f i) k ≡ marked_sum q words f k
mark_above q words f m zero high = refl
mark_above q words f m (suc k) high =
    let apart : (m == k) ≡ false = isnt_same m k (λ e. absurd (omega (arith, e, high))) in
    omega (
      arith,
      mark_above q words f m k (omega arith),
      ap
          (λ b. cond (b || f k) (given q (node_parts words k)) 0) apart,
    )

-- one mark more
mark_more : (q : ℕ) (words : List ℕ) (f : ℕ → Bool) (m k : ℕ) → m < k → f m ≡ false
    → marked_sum q words (λ i. (m == i) || f i) k ≡ marked_sum q words f k
    + given q (node_parts words m)
mark_more q words f m zero low new = absurd (omega arith)
mark_more q words f m (suc k) low new = by_test (m == k) refl (mark_more q words f m k)
  where
    by_test : (b : Bool) → (m == k) ≡ b
        → (m < k → f m ≡ false → marked_sum q words (λ i. (m == i) || f i) k
        ≡ marked_sum q words f k + given q (node_parts words m))
        → marked_sum q words (λ i. (m == i) || f i) k + cond ((m == k) || f k)
        (given q (node_parts words k)) 0
        ≡ marked_sum q words f k + cond (f k) (given q (node_parts words k)) 0
        + given q (node_parts words m)
    by_test b e before = search (same_of, mark_above, given, apart_of, arith)

or_swap : (a b x : Bool) → (a || (b || x)) ≡ ((b || a) || x)
or_swap a b x = grind arith

ends_give : (q : ℕ) → part_given q (end_pair false) ≡ 0
ends_give q = nothing_given q 0

damage_gives : (q : ℕ) → part_given q (end_pair true) ≡ given q damage
damage_gives q = omega arith

module _ (q size : ℕ) (words : List ℕ) where
  -- the marks of what was seen, and of the chain from here on, with its end
  abbrev Sums : ℕ → List ℕ → ℕ → Type 0
  Sums left seen n =
      marked_sum q words
      (λ i. list_any (λ m. m == i) seen || list_any (λ m. m == i)
      (chain_nodes_from size words left seen n)) size
      + part_given q (end_pair (chain_breaks_from size words left seen n))
      ≡ marked_sum q words (λ i. list_any (λ m. m == i) seen) size
      + given q (chain_parts_from size words left seen n)

  one_more : (seen : List ℕ) (n : ℕ) → n < size → list_any (λ m. m == n) seen ≡ false
      → marked_sum q words (λ i. list_any (λ m. m == i) (n ∷ seen)) size ≡ marked_sum q words
      (λ i. list_any (λ m. m == i) seen) size + given q (node_parts words n)
  one_more seen n low new = mark_more q words (λ i. list_any (λ m. m == i) seen) n size low new

  step : (left : ℕ) (seen : List ℕ) (n : ℕ) → n < size → list_any (λ m. m == n) seen ≡ false
      → ((seen' : List ℕ) (n' : ℕ) → n' < size → list_any (λ m. m == n') seen' ≡ false
      → Sums left seen' n')
      → (ends back : Bool)
      → (nat_le size (right_of words n) || list_any (λ m. m == right_of words n) (n ∷ seen)) ≡ back
      → marked_sum q words
      (λ i. list_any (λ m. m == i) seen
      || ((n == i) || list_any (λ m. m == i) (nodes_after size words left seen n ends back))) size
      + part_given q (end_pair (breaks_after size words left seen n ends back))
      ≡ marked_sum q words (λ i. list_any (λ m. m == i) seen) size
      + given q (node_parts words n ++ parts_after size words left seen n ends back)
  step left seen n low new rest true back is_back =
      omega (
        arith,
        same_marks q words (λ i. list_any (λ m. m == i) seen || ((n == i) || false))
            (λ i. list_any (λ m. m == i) (n ∷ seen)) size
            (λ i. or_swap (list_any (λ m. m == i) seen) (n == i) false
            ∙ or-false ((n == i) || list_any (λ m. m == i) seen)),
        one_more seen n low new,
        ends_give q,
        given-append q (node_parts words n) [],
      )
  step left seen n low new rest false true is_back =
      omega (
        arith,
        same_marks q words (λ i. list_any (λ m. m == i) seen || ((n == i) || false))
            (λ i. list_any (λ m. m == i) (n ∷ seen)) size
            (λ i. or_swap (list_any (λ m. m == i) seen) (n == i) false
            ∙ or-false ((n == i) || list_any (λ m. m == i) seen)),
        one_more seen n low new,
        damage_gives q,
        given-append q (node_parts words n) damage,
      )
  step left seen n low new rest false false is_back =
      let both = neither_true (nat_le size (right_of words n))
      (list_any (λ m. m == right_of words n) (n ∷ seen)) is_back in
      let onward : Sums left (n ∷ seen) (right_of words n) = rest (n ∷ seen) (right_of words n)
      (above_of size (right_of words n) both.0) both.1 in
      omega (
        arith,
        same_marks q words
            (λ i. list_any (λ m. m == i) seen
            || ((n == i) || list_any (λ m. m == i)
            (chain_nodes_from size words left (n ∷ seen) (right_of words n))))
            (λ i. list_any (λ m. m == i) (n ∷ seen) || list_any (λ m. m == i)
            (chain_nodes_from size words left (n ∷ seen) (right_of words n))) size
            (λ i. or_swap (list_any (λ m. m == i) seen) (n == i)
            (list_any (λ m. m == i)
            (chain_nodes_from size words left (n ∷ seen) (right_of words n)))),
        one_more seen n low new,
        onward,
        given-append q (node_parts words n)
            (chain_parts_from size words left (n ∷ seen) (right_of words n)),
      )

  sums : (left : ℕ) (seen : List ℕ) (n : ℕ) → n < size → list_any (λ m. m == n) seen ≡ false
      → Sums left seen n
  sums zero seen n low new = search (same_marks, ends_give, arith)
  sums (suc left) seen n low new = step left _ n low new (sums left) (right_of words n == 0)
      (nat_le size (right_of _ n) || list_any (λ m. m == right_of words n) (n ∷ seen)) refl

  -- the marks of the chain's nodes, with its end, are what the chain gives
  chain_gives : 0 < size → marked_sum q words (is_on_chain size words) size + part_given q
      (end_pair (is_broken size words)) ≡ given q (chain_parts size words)
  unfolding is_on_chain is_broken
  chain_gives some = omega (arith, sums size [] 0 some refl, no_marks q words size)

  at_node : (n j : ℕ) → j < 4 → n < size → part_given q (tree_pair size words (4 * n + j))
      ≡ cond (is_on_chain size words n) (part_given q (entry_pair words n j)) 0
  at_node n j low inside = search (isnt_same, nothing_given, arith)

  four_of : (b : Bool) (w x y z t : ℕ) → 0 + w + x + y + z ≡ t → cond b w 0 + cond b x 0
      + cond b y 0 + cond b z 0 ≡ cond b t 0
  four_of b w x y z t e = search arith

  nodes_give : (n : ℕ) → n ≤ size → given q (map (tree_pair size words) (numbers_below (4 * n)))
      ≡ marked_sum q words (is_on_chain size words) n
  nodes_give zero low = refl
  nodes_give (suc n) low =
      let four : 4 * suc n ≡ 4 * n + 1 + 1 + 1 + 1 = omega arith in
      let f : ℕ → ℕ × ℕ = tree_pair size words in
      let e0 : 4 * n ≡ 4 * n + 0 = omega arith in
      let e2 : 4 * n + 1 + 1 ≡ 4 * n + 2 = omega arith in
      let e3 : 4 * n + 1 + 1 + 1 ≡ 4 * n + 3 = omega arith in
      ap (λ k. given q (map (tree_pair size words) (numbers_below k))) four
      ∙ omega (
        arith,
        given_map_push q (tree_pair size words) (4 * n + 1 + 1 + 1),
        given_map_push q (tree_pair size words) (4 * n + 1 + 1),
        given_map_push q (tree_pair size words) (4 * n + 1),
        given_map_push q (tree_pair size words) (4 * n),
        nodes_give n (omega (arith, low)),
        ap (λ k. part_given q (tree_pair size words k)) e0 ∙ at_node n 0 (omega arith)
            (omega (arith, low)),
        at_node n 1 (omega arith) (omega (arith, low)),
        ap (λ k. part_given q (tree_pair size words k)) e2 ∙ at_node n 2 (omega arith)
            (omega (arith, low)),
        ap (λ k. part_given q (tree_pair size words k)) e3 ∙ at_node n 3 (omega arith)
            (omega (arith, low)),
        four_of (is_on_chain size words n) (part_given q (entry_pair words n 0))
            (part_given q (entry_pair words n 1)) (part_given q (entry_pair words n 2))
            (part_given q (entry_pair words n 3)) (given q (node_parts words n))
            (node_gives q words n),
      )

  -- all places of a tree
  pub places_give : 0 < size → given q (map (tree_pair size words) (numbers_below (4 * size + 1)))
      ≡ given q (chain_parts size words)
  places_give some = search (given_map_push, nodes_give, tree_pair_end, chain_gives, arith)
