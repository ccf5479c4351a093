-- The least key at which two sides differ.
use Rattle.std.specs.Prelude.{◌≡◌, ◌≢◌, ℕ, ◌<◌, Option, Some, None}

-- whether this is the least key whose amounts differ, or there is none
abbrev pub IsLeastApart : (ℕ → ℕ) → (ℕ → ℕ) → Option ℕ → Type 0
IsLeastApart f g None = (q : ℕ) → f q ≡ g q
IsLeastApart f g (Some k) = (f k ≢ g k) × ((q : ℕ) → q < k → f q ≡ g q)
