-- Amounts with further parts, one after another.
use Rattle.std.specs.Prelude.{ℕ, List, [], ◌∷◌}
use Rattle.vyrd_base.specs.Amounts.{Amounts, plus_amount}

-- the amounts after each part was added to its key's amount
abbrev pub added : Amounts → List (ℕ × ℕ) → Amounts
added sums [] = sums
added sums (part ∷ parts) = added (plus_amount sums part.0 part.1) parts
