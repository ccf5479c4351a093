-- The exact sum of what the words show of each key, beside the specification's amounts.
use Rattle.std.specs.Prelude.{◌≡◌, ℕ, ◌+◌, ◌*◌, ◌^◌, []}
use Rattle.vyrd_view.specs.Sided as sided
use Rattle.vyrd_view.specs.declared.sums.Sums.{Sums}

-- what the words show of a key: 2^64 for each of its carries, and what is left
unfoldable pub sum_at : Sums → ℕ → ℕ
sum_at sums q = sided.shown_at sums.sides q + 2 ^ 64 * sided.shown_at sums.carries q

-- both parts are in order, and nothing is specified of carries
pub record AreSettled (sums : Sums) : Type 0 where
  pub sides : sided.IsSettled sums.sides
  pub carries : sided.IsSettled sums.carries
  pub alone : sided.specified_of sums.carries ≡ []

unfoldable pub IsSettled : Sums → Type 0
IsSettled sums = AreSettled sums
