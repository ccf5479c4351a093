-- What the pairs of parts give to a key, one place and one part after the other.
use Rattle.vyrd_own_states.proofs.Prelude.{◌≡◌, ℕ, ◌+◌, ◌*◌, ◌<◌, List, map, get_or, arith, ◌≢◌}
use Rattle.vyrd_own_states.proofs.Prelude.{flat_map, slice_range, Amounts, amount_of, collected}
use Rattle.vyrd_own_states.proofs.Prelude.{given, numbers_below, map_alike, pairs_in, part_pairs}
use Rattle.vyrd_base.proofs.SumLaws.{own_part, other_part, amount_of-collected}
use Rattle.vyrd_view.specs.Decoded.{Gives, pairs_by}
use Rattle.vyrd_view.specs.Laws.Sums.{given_map_push, given_flat_push, places_give}

-- ---- one place more

module _ (f : ℕ → ℕ × ℕ) (q m amount : ℕ) (pair : ℕ × ℕ) where
  -- it gives to its own key
  pub place_given : amount ≡ given q (map f (numbers_below m)) → pair ≡ f m → pair.0 ≡ q
      → amount + pair.1 ≡ given q (map f (numbers_below (m + 1)))
  place_given is here same = search (given_map_push, own_part, arith)

  -- and nothing to another
  pub place_passed : amount ≡ given q (map f (numbers_below m)) → pair ≡ f m → pair.0 ≢ q
      → amount ≡ given q (map f (numbers_below (m + 1)))
  place_passed is here other = search (given_map_push, other_part, arith)

-- ---- one part more

module _ (width places : ℕ) (gives : Gives) (words : List ℕ) (q part amount : ℕ) where
  pub part_added : (more : ℕ)
      → amount ≡ given q (flat_map (part_pairs width places gives words) (numbers_below part))
      → more ≡ given q (part_pairs width places gives words part)
      → amount + more
      ≡ given q (flat_map (part_pairs width places gives words) (numbers_below (part + 1)))
  part_added more is new = search (given_flat_push, arith)

  -- what all parts give to a key is its amount
  pub all_parts : (parts : ℕ) (view : Amounts) → part ≡ parts
      → amount ≡ given q (flat_map (part_pairs width places gives words) (numbers_below part))
      → collected (pairs_by width places parts gives words) ≡ view → amount ≡ amount_of view q
  all_parts parts view end is shown = search (given, places_give, amount_of-collected, arith)

-- ---- pairs as they are decoded

-- what decoded pairs give is what their part gives
pub part_decoded : (width places : ℕ) (gives : Gives) (words : List ℕ) (q part n w : ℕ)
    (pairs : List (ℕ × ℕ)) → n ≡ places → w ≡ width
    → ((j : ℕ) → j < places
    → get_or pairs j (0, 0) ≡ gives part (slice_range words (part * w) (part * w + w)) j)
    → given q (pairs_in n pairs) ≡ given q (part_pairs width places gives words part)
part_decoded width places gives words q part n w pairs few wide is =
    grind (arith, gives, few, given, map_alike)
