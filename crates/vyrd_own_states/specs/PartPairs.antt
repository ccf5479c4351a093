-- What one part of the words gives.
use Rattle.std.specs.Prelude.{ℕ, List, map, slice_index_or}
use Rattle.vyrd_base.specs.Places.{numbers_below}
use Rattle.vyrd_view.specs.Decoded.{Gives, words_of}

-- the pairs in the first places, by what is in each of them
abbrev pub own_pairs : ℕ → (ℕ → ℕ × ℕ) → List (ℕ × ℕ)
own_pairs places pair = map pair (numbers_below places)

-- the pairs in the first places of a part
abbrev pub part_pairs : ℕ → ℕ → Gives → List ℕ → ℕ → List (ℕ × ℕ)
part_pairs width places gives words part = own_pairs places (gives part (words_of width part words))

-- the first pairs of a list
abbrev pub pairs_in : ℕ → List (ℕ × ℕ) → List (ℕ × ℕ)
pairs_in places pairs = own_pairs places (λ j. slice_index_or pairs j (0, 0))
