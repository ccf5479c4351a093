-- Amounts of the keys from 0 on, each in its key's place.
use Rattle.std.specs.Prelude.{ℕ, Bool, List, length, map, slice_index, Option}
use Rattle.std.specs.Bool.{then_some}
use Rattle.std.specs.List.{list_all}
use Rattle.vyrd_base.specs.Places.{numbers_below}
use Rattle.vyrd_base.specs.Amounts.{Amounts, IsAmounts, collected}
use Rattle.vyrd_base.proofs.SumLaws.{IsAmounts-collected}

-- each key has its element as its amount
unfoldable pub row_amounts : List ℕ → Amounts
row_amounts row = collected (map (λ k. (k, slice_index row k)) (numbers_below (length row)))

-- These are amounts.
pub row_formed : (row : List ℕ) → IsAmounts (row_amounts row)
unfolding row_amounts
row_formed row =
    IsAmounts-collected (map (λ k. (k, slice_index row k)) (numbers_below (length row)))

-- the values of the numbers below n, if all of these pass
abbrev pub sound_row : (ℕ → Bool) → (ℕ → ℕ) → ℕ → Option (List ℕ)
sound_row passes value n =
    then_some (list_all passes (numbers_below n)) (map value (numbers_below n))
