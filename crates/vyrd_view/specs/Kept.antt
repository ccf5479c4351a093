-- What is kept of the parts that words have been decoded to, and of the specification.
use Rattle.std.specs.Prelude.{ℕ, Bool, List}
use Rattle.vyrd_base.specs.Amounts.{Amounts}

-- the pairs of a key and an amount that the parts give, each in its place; the specification's
-- amounts; and whether memory was refused
pub record ComparedKept : Type 0 where
  pub pairs : List (ℕ × ℕ)
  pub specified : Amounts
  pub refused : Bool
