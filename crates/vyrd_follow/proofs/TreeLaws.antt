-- What a tree's words show of a key, where a word of a node has changed that isn't its right link.
use Rattle.vyrd_follow.proofs.Prelude
use Prelude.{◌≡◌, ◌≢◌, ℕ, zero, suc, ◌+◌, ◌-◌, ◌*◌, ◌/◌, ◌%◌, ◌^◌, ◌<◌, ◌≤◌, Bool, true, false}
use Prelude.{cond, ◌||◌, List, [], ◌∷◌, length, map, get_or, set, replicate, refl, ap, ◌∙◌, sym}
use Prelude.{subst, arith, get_or-set_other, get_or-set_same, ◌==◌, slice_index, Header, Tree}
use Prelude.{amount_of, given, part_given, numbers_below, chain_parts, node_word, view_of_words}
use Prelude.{map_alike, element_below, length_below, amount_of-collected, nothing_given, other_part}
use Prelude.{same_of, apart_of, isnt_same, neither_true, tree_pair, entry_pair, end_pair}
use Prelude.{is_on_chain, AgreeElsewhere, given_map_push, each_bounds, node_untouched}
use Prelude.{chain_untouched, end_untouched, places_give, tree_pair_end, node_given}

-- ---- places of which those of one node may differ

module _ (q n : ℕ) (f g : ℕ → ℕ × ℕ) (same : (m : ℕ) → m / 4 ≢ n → f m ≡ g m) where
  abbrev sum_to : (ℕ → ℕ × ℕ) → ℕ → ℕ
  sum_to h m = given q (map h (numbers_below m))

  abbrev four_of : (ℕ → ℕ × ℕ) → ℕ
  four_of h = part_given q (h (4 * n)) + part_given q (h (4 * n + 1))
      + part_given q (h (4 * n + 2)) + part_given q (h (4 * n + 3))

  before_node : (m : ℕ) → m ≤ 4 * n → sum_to f m ≡ sum_to g m
  before_node zero low = refl
  before_node (suc m) low =
      let one : m + 1 ≡ suc m = omega arith in
      let here = ap (part_given q) (same m (λ at. absurd (omega (arith, at, low)))) in
      subst (λ k. sum_to f k ≡ sum_to g k) one (omega (
        arith,
        here,
        before_node m (omega (arith, low)),
        given_map_push q f m,
        given_map_push q g m,
      ))

  with_node : (h : ℕ → ℕ × ℕ) → sum_to h (4 * n + 4) ≡ sum_to h (4 * n) + four_of h
  with_node h =
      let two : 4 * n + 1 + 1 ≡ 4 * n + 2 = omega arith in
      let three : 4 * n + 2 + 1 ≡ 4 * n + 3 = omega arith in
      let four : 4 * n + 3 + 1 ≡ 4 * n + 4 = omega arith in
      omega (
        arith,
        given_map_push q h (4 * n),
        given_map_push q h (4 * n + 1),
        given_map_push q h (4 * n + 2),
        given_map_push q h (4 * n + 3),
        ap (sum_to h) two,
        ap (sum_to h) three,
        ap (sum_to h) four,
      )

  after_node : (k : ℕ) → sum_to f (4 * n + 4 + k) + sum_to g (4 * n + 4)
      ≡ sum_to g (4 * n + 4 + k) + sum_to f (4 * n + 4)
  after_node zero = grind arith
  after_node (suc k) =
      let one : 4 * n + 4 + k + 1 ≡ 4 * n + 4 + suc k = omega arith in
      let here = ap (part_given q) (same (4 * n + 4 + k) (λ at. absurd (omega (arith, at)))) in
      rw (← one) (omega (
        arith,
        here,
        after_node k,
        given_map_push q f (4 * n + 4 + k),
        given_map_push q g
            (4 * n + 4 + k),
      ))

  pub one_node : (size : ℕ) → n < size
      → sum_to f (4 * size + 1) + four_of g ≡ sum_to g (4 * size + 1) + four_of f
  one_node size low =
      let rest : 4 * n + 4 + (4 * size + 1 - (4 * n + 4)) ≡ 4 * size + 1 = omega (arith, low) in
      omega (
        arith,
        before_node (4 * n) (omega arith),
        with_node f,
        with_node g,
        after_node (4 * size + 1 - (4 * n + 4)),
        ap (sum_to f) rest,
        ap (sum_to g) rest,
      )

-- ---- the places of a tree

-- a place of a node that is on the chain, or isn't
node_place : (size : ℕ) (words : List ℕ) (n j : ℕ) (on : Bool) → n < size → j < 4
    → is_on_chain size words n ≡ on
    → tree_pair size words (4 * n + j) ≡ cond on (entry_pair words n j) (0, 0)
node_place size words n j on low few is = grind (arith, few, isnt_same)

-- what the words of a tree show is what its places give
shown_places : (h : Header) (words : List ℕ) (q : ℕ) → h.subject ≡ Tree → 0 < h.size
    → amount_of (view_of_words h words) q
    ≡ given q (map (tree_pair h.size words) (numbers_below (4 * h.size + 1)))
unfolding view_of_words
shown_places h words q is some =
    cc (amount_of-collected (chain_parts h.size words) q, places_give q h.size words some)

module _ (size w was : ℕ) (words : List ℕ) (unlinked : w % 12 ≢ 3) where
  elsewhere : AgreeElsewhere (set words w was) words (w ∷ [])
  elsewhere x untouched =
      let both = neither_true (w == x) false untouched in
      sym (get_or-set_other words w x was 0 (λ e. apart_of w x both.0 (sym e)))

  no_link : (w % 12 == 3 || false) ≡ false
  no_link = ap (λ b. b || false) (isnt_same (w % 12) 3 unlinked)

  pub same_chain : (n : ℕ) → is_on_chain size words n ≡ is_on_chain size (set words w was) n
  same_chain n = chain_untouched (set words w was) words (w ∷ []) elsewhere no_link size n

  all_marked : (k : ℕ) → get_or (replicate (suc k) true) k false ≡ true
  all_marked zero = refl
  all_marked (suc k) = all_marked k

  same_entry : (m : ℕ) → m / 4 ≢ w / 12
      → entry_pair words (m / 4) (m % 4) ≡ entry_pair (set words w was) (m / 4) (m % 4)
  same_entry m apart = search (all_marked, node_untouched, elsewhere, isnt_same, arith)

  -- the places of other nodes, and of the chain's end
  pub same_place : (m : ℕ) → m / 4 ≢ w / 12
      → tree_pair size words m ≡ tree_pair size (set words w was) m
  same_place m apart =
      cc (
        end_untouched (set words w was) words (w ∷ []) elsewhere no_link size,
        same_chain
            (m / 4),
        same_entry m apart,
      )

  -- the chain's end
  pub same_end : (m : ℕ) → (m == 4 * size) ≡ true
      → tree_pair size words m ≡ tree_pair size (set words w was) m
  same_end m end =
      let at : m ≡ 4 * size = same_of m (4 * size) end in
      ap (tree_pair size words) at ∙ tree_pair_end size words
      ∙ ap end_pair (end_untouched (set words w was) words (w ∷ []) elsewhere no_link size)
      ∙ sym (ap (tree_pair size (set words w was)) at ∙ tree_pair_end size (set words w was))

  -- those of the word's own node, if it isn't on the chain
  same_unmarked : (m : ℕ) → m < 4 * size → is_on_chain size words (m / 4) ≡ false
      → tree_pair size words m ≡ tree_pair size (set words w was) m
  same_unmarked m low off = search (node_place, same_chain, arith)

module _ (h : Header) (w was : ℕ) (words : List ℕ) (q : ℕ) (is : h.subject ≡ Tree)
    (some : 0 < h.size) (unlinked : w % 12 ≢ 3) where
  -- what a node on the chain gave gives way to what it gives now
  pub node_turned : w / 12 < h.size → is_on_chain h.size words (w / 12) ≡ true
      → amount_of (view_of_words h (set words w was)) q + node_given q words (w / 12)
      ≡ amount_of (view_of_words h words) q + node_given q (set words w was) (w / 12)
  node_turned low on =
      let n = w / 12 in
      let before = set words w was in
      let also = sym (same_chain h.size w was words unlinked (w / 12)) ∙ on in
      let zeroth : 4 * (w / 12) + 0 ≡ 4 * (w / 12) = omega arith in
      let at = λ (ws : List ℕ) (marked : is_on_chain h.size ws (w / 12) ≡ true) (j : ℕ)
      (few : j < 4). ap (part_given q) (node_place h.size ws (w / 12) j true low few marked) in
      omega (
        arith,
        shown_places h words q is some,
        shown_places h before q is some,
        one_node q n (tree_pair h.size words) (tree_pair h.size before)
            (same_place h.size w was words unlinked) h.size low,
        ap (λ k. part_given q (tree_pair h.size words k)) zeroth,
        ap (λ k. part_given q (tree_pair h.size before k)) zeroth,
        at words on 0 (omega arith),
        at words on 1 (omega arith),
        at words on 2 (omega arith),
        at words on 3 (omega arith),
        at before also 0 (omega arith),
        at before also 1 (omega arith),
        at before also 2 (omega arith),
        at before also 3 (omega arith),
      )

  -- and a node that isn't on it has given nothing
  pub node_unturned : (w / 12 < h.size → is_on_chain h.size words (w / 12) ≡ false)
      → amount_of (view_of_words h (set words w was)) q ≡ amount_of (view_of_words h words) q
  node_unturned off = search (
    shown_places,
    given,
    map_alike,
    same_place,
    apart_of,
    same_end,
    same_of,
    same_unmarked,
    arith,
  )

-- ---- amounts are small

place_most : (size : ℕ) (words : List ℕ) (m : ℕ) → (tree_pair size words m).1 ≤ 2 ^ 33
place_most size words m = search arith

pub tree_small : (h : Header) (words : List ℕ) (q : ℕ) → h.subject ≡ Tree → 0 < h.size
    → h.size ≤ 1024 → amount_of (view_of_words h words) q < 2 ^ 63
tree_small h words q is some few =
    let f : ℕ → ℕ × ℕ = tree_pair h.size words in
    let all = map (tree_pair h.size words) (numbers_below (4 * h.size + 1)) in
    let count = length_below (tree_pair h.size words) (4 * h.size + 1) in
    omega (
      arith,
      few,
      shown_places h words q is some,
      count,
      each_bounds (2 ^ 33) q all (λ i low. omega (
        arith,
        ap (λ (p : ℕ × ℕ). p.1)
            (element_below f (4 * h.size + 1) i (0, 0) (omega (arith, low, count))),
        place_most h.size words i,
      )),
    )

-- ---- keys that an entry gives to

entry_none : (q : ℕ) (words : List ℕ) (n j : ℕ) → q ≢ node_word words n (4 + j) → q ≢ 2 ^ 33
    → part_given q (entry_pair words n j) ≡ 0
entry_none q words n j other sound = grind (arith, nothing_given, other_part)

-- a node gives nothing to other keys
pub node_none : (q : ℕ) (words : List ℕ) (n : ℕ)
    → ((j : ℕ) → j < 4 → q ≢ node_word words n (4 + j)) → q ≢ 2 ^ 33 → node_given q words n ≡ 0
node_none q words n others sound = search (entry_none, arith)

-- a word of before is what it is now, or what the write has changed
pub word_before : (words : List ℕ) (w was i q : ℕ) → w < length words → q ≢ was
    → q ≢ slice_index words i → q ≢ slice_index (set words w was) i
word_before words w was i q within not_was isnt = by_test (i == w) refl
  where
    by_test : (t : Bool) → (i == w) ≡ t → q ≢ slice_index (set words w was) i
    by_test true e = λ at. not_was (at ∙ ap (slice_index _) (same_of i w e)
        ∙ get_or-set_same _ w _ 0 within)
    by_test false e = λ at. isnt (at ∙ get_or-set_other _ w i _ 0 (apart_of i w e))
