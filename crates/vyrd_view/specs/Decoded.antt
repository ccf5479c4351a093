-- Words that are decoded part by part. Each part has words of its own, `width` of them, and gives
-- pairs of a key and an amount in places of its own, `places` of them. What a part gives follows
-- from its number and its own words.
use Rattle.std.specs.Prelude.{◌≡◌, ℕ, ◌+◌, ◌*◌, ◌/◌, ◌%◌, ◌<◌, ◌≤◌, List, length, map, slice_range}
use Rattle.std.specs.Prelude.{◌++◌, ◌-◌, replicate, slice_index_or}
use Rattle.vyrd_base.specs.Places.{numbers_below}

-- what a part gives: by its number, its own words, and the number of the place in the part
abbrev pub Gives : Type 0
Gives = ℕ → List ℕ → ℕ → ℕ × ℕ

-- these words, and zeroes after them: `count` words in all
abbrev pub padded : ℕ → List ℕ → List ℕ
padded count words = words ++ replicate (count - length words) 0

-- the words of a part
abbrev pub words_of : ℕ → ℕ → List ℕ → List ℕ
words_of width part words = slice_range words (part * width) (part * width + width)

-- The places of part p are those from p * `places` on.
abbrev pub pair_at : ℕ → ℕ → Gives → List ℕ → ℕ → ℕ × ℕ
pair_at width places gives words m =
    gives (m / places) (words_of width (m / places) words) (m % places)

-- the pairs of all parts, in their places
abbrev pub pairs_by : ℕ → ℕ → ℕ → Gives → List ℕ → List (ℕ × ℕ)
pairs_by width places parts gives words =
    map (pair_at width places gives words) (numbers_below (parts * places))

-- The first parts have room, `held` of them: words of their own, and a place for each pair that
-- they give. All words past theirs are 0.
pub record HaveRoom (width places parts held : ℕ) (gives : Gives) (words : List ℕ)
    (pairs : List (ℕ × ℕ)) : Type 0 where
  pub few : held ≤ parts
  pub count : length words ≡ held * width
  pub given : pairs ≡ pairs_by width places held gives (padded (parts * width) words)

-- some words of its part give a place this pair
pub record IsGiven (places : ℕ) (gives : Gives) (m : ℕ) (pair : ℕ × ℕ) : Type 0 where
  pub own : List ℕ
  pub is : pair ≡ gives (m / places) own (m % places)

-- each place has a pair that some words of its part give
pub record AreGiven (places parts : ℕ) (gives : Gives) (pairs : List (ℕ × ℕ)) : Type 0 where
  pub count : length pairs ≡ parts * places
  pub each : (m : ℕ) → m < length pairs
      → IsGiven places gives m (slice_index_or pairs m (0, 0))
