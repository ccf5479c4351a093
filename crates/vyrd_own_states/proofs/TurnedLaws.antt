-- What words show after one of them has changed: only what its part gives can be other than before.
use Rattle.vyrd_own_states.proofs.Prelude
use Prelude.{◌≡◌, ◌≢◌, ℕ, ◌+◌, ◌-◌, ◌*◌, ◌/◌, ◌<◌, ◌≤◌, List, length, length-set, set, take, drop}
use Prelude.{ap, ◌∙◌, arith, flat_map, slice_range, drop-set-lt, drop-set-add, take-set-le}
use Prelude.{take-set-lt, mod-add-div', mod-lt, Amounts, amount_of, collected, given, numbers_below}
use Prelude.{below_of, not_below_of, part_of_within, one_apart, own_pairs, part_pairs}
use Rattle.vyrd_view.specs.Decoded.{Gives, words_of, pairs_by}
use Rattle.vyrd_own_states.proofs.PairLaws.{all_parts}

-- ---- the words of a part

module _ (width : ℕ) (words : List ℕ) (w v : ℕ) (some : 1 ≤ width) where
  -- where a word's part begins
  begins : w / width * width ≤ w
  begins = omega (arith, mod-add-div' w width)

  -- and how far behind that the word is
  offset_low : w - w / width * width < width
  offset_low = omega (arith, mod-add-div' w width, mod-lt w some)

  -- the part that the word is in
  own_changed : words_of width (w / width) (set words w v)
      ≡ set (words_of width (w / width) words) (w - w / width * width) v
  own_changed =
      let from : ℕ = w / width * width in
      let k : ℕ = w - from in
      let at : w ≡ from + k = omega (arith, begins) in
      let inside : k < from + width - from = omega (arith, offset_low) in
      ap (λ n. take (from + width - from) (drop from (set words n v))) at
      ∙ ap (take (from + width - from)) (drop-set-add from words k v)
      ∙ take-set-lt (from + width - from) (drop from words) k v inside

  -- a part that begins behind it, and one that ends before it
  behind : (i : ℕ) → w < i * width → words_of width i (set words w v) ≡ words_of width i words
  behind i low = ap (take (i * width + width - i * width)) (drop-set-lt (i * width) words w v low)

  ahead : (i : ℕ) → i * width + width ≤ w
      → words_of width i (set words w v) ≡ words_of width i words
  ahead i high =
      let from : ℕ = i * width in
      let k : ℕ = w - from in
      let at : w ≡ from + k = omega (arith, high) in
      let past : from + width - from ≤ k = omega (arith, high) in
      cc (drop-set-add from words k v, take-set-le (from + width - from) (drop from words) k v past)

  -- so all parts that it isn't in have the words of before
  others_kept : (i : ℕ) → i ≢ w / width
      → words_of width i (set words w v) ≡ words_of width i words
  others_kept i other = search
      (words_of, below_of, ahead, begins, not_below_of, behind, offset_low, arith)

-- what the part of a word gives, if the word is given another value in a copy of the part's words
pub given_with : (width places : ℕ) (gives : Gives) (words : List ℕ) (q w v n amount : ℕ)
    (copied own : List ℕ) → 1 ≤ width → n ≡ width
    → copied ≡ slice_range words (w / n * n) (w / n * n + n) → own ≡ set copied (w - w / n * n) v
    → amount ≡ given q (own_pairs places (gives (w / n) own))
    → amount ≡ given q (part_pairs width places gives (set words w v) (w / width))
given_with width places gives words q w v n amount copied own some same copy is gave =
    grind (arith, gives, given, own_changed)

-- ---- what the parts give

module _ (width places parts : ℕ) (gives : Gives) (words : List ℕ) (q w was : ℕ) where
  -- what the words show is what all parts give
  all_given : (all : List ℕ) (view : Amounts)
      → collected (pairs_by width places parts gives all) ≡ view
      → given q (flat_map (part_pairs width places gives all) (numbers_below parts))
      ≡ amount_of view q
  all_given all view shown = search (all_parts, given, arith)

  -- what the word's part gave gives way to what it gives now
  pub part_turned : (old new before n : ℕ) (view : List ℕ → Amounts) → 1 ≤ width → n ≡ width
      → length words ≡ parts * width → w < length words
      → ((all : List ℕ) → length all ≡ parts * width
      → collected (pairs_by width places parts gives all) ≡ view all)
      → before ≡ amount_of (view (set words w was)) q
      → old ≡ given q (part_pairs width places gives (set words w was) (w / width))
      → new ≡ given q (part_pairs width places gives words (w / n))
      → before + new ≡ amount_of (view words) q + old
  part_turned old new before n view some same count within shown is gave gives_now =
      let earlier : List ℕ = set words w was in
      let low : w / width < parts = part_of_within w parts width (omega (arith, count, within)) in
      let one = one_apart q (part_pairs width places gives earlier)
      (part_pairs width places gives words) (w / width) parts low
      (λ i other. cc (others_kept width words w was some i other)) in
      omega (
        arith,
        is,
        gave,
        gives_now,
        ap (λ k. given q (part_pairs width places gives words (w / k))) same,
        one,
        all_given earlier (view earlier) (shown earlier (length-set words w was ∙ count)),
        all_given words (view words) (shown words count),
      )

  -- the same of the word's new value, by what its part gave and gives
  pub part_gives_way : (old new : ℕ) (later : List ℕ) (view : List ℕ → Amounts) → 1 ≤ width
      → length words ≡ parts * width → w < length words
      → ((all : List ℕ) → length all ≡ parts * width
      → collected (pairs_by width places parts gives all) ≡ view all)
      → later ≡ set words w was
      → old ≡ given q (part_pairs width places gives words (w / width))
      → new ≡ given q (part_pairs width places gives later (w / width))
      → amount_of (view words) q + new ≡ amount_of (view later) q + old
  part_gives_way old new later view some count within shown turned gave gives_now =
      let low : w / width < parts = part_of_within w parts width (omega (arith, count, within)) in
      let long : length later ≡ parts * width =
      ap length turned ∙ length-set words w was ∙ count in
      let one = one_apart q (part_pairs width places gives words)
      (part_pairs width places gives later) (w / width) parts low
      (λ i other. cc (others_kept width words w was some i other)) in
      omega (
        arith,
        gave,
        gives_now,
        one,
        all_given words (view words) (shown words count),
        all_given later (view later) (shown later long),
      )
