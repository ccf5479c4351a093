-- What the slots of a multiset give.
use Rattle.vyrd_spec.proofs.Prelude
use Prelude.{◌≡◌, ◌≢◌, ℕ, ◌+◌, ◌*◌, ◌^◌, ◌<◌, ◌≤◌, Bool, true, false, List, length, refl, arith}
use Prelude.{nat_lt, flat_map, slice_index, All, get_or_past, numbers_below, Amounts, amount_of}
use Prelude.{collected, given, slot_parts, given_nothing, amount_of-collected, slots_at_most}
use Prelude.{below_of, not_below_of, isnt_same, AllAmounts, most_after}

-- a word, and 0 past the words
small_word : (words : List ℕ) (i : ℕ) → All (λ word. word < 2 ^ 63) words
    → slice_index words i < 2 ^ 63
small_word words i small = by_place (nat_lt i (length words)) refl
  where
    by_place : (b : Bool) → nat_lt i (length words) ≡ b → slice_index words i < 2 ^ 63
    by_place true e = search (below_of, small, arith)
    by_place false e = grind (arith, get_or_past words i 0 (not_below_of i (length words) e))

-- what a slot gives to a number that no word has
none_of_slot : (words : List ℕ) (q i : ℕ) → q ≢ slice_index words (2 * i + 1)
    → given q (slot_parts words i) ≡ 0
none_of_slot words q i other = grind (arith, given, isnt_same)

-- what is shown is below 2^63, as words are
pub small_value : (words : List ℕ) (n q : ℕ) → All (λ word. word < 2 ^ 63) words
    → amount_of (collected (flat_map (slot_parts words) (numbers_below n))) q ≢ 0 → q < 2 ^ 63
small_value words n q small some =
    grind (
      arith,
      small_word,
      not_below_of,
      below_of,
      amount_of-collected,
      given_nothing,
      none_of_slot,
    )

-- the counts that the slots of a multiset show
pub first_counts : (words : List ℕ) (size : ℕ) (counts : Amounts) → size ≤ 1024
    → All (λ word. word < 2 ^ 63) words
    → counts ≡ collected (flat_map (slot_parts words) (numbers_below (4 * size)))
    → AllAmounts (λ value count. (value < 2 ^ 63) × (count ≤ most_after 0)) counts
first_counts words size counts few small is = grind (arith, few, small, small_value, slots_at_most)
