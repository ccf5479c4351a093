-- Sums of what places give.
use Rattle.std.specs.Prelude.{◌≡◌, ℕ, ◌^◌, Bool, true, nat_lt, map}
use Rattle.std.specs.List.{list_all}
use Rattle.vyrd_base.specs.Amounts.{Amounts, IsAmounts, amount_of, given}
use Rattle.vyrd_base.specs.Places.{numbers_below}

-- whether each key has less than 2^64
abbrev pub are_low : Amounts → Bool
are_low amounts = list_all (λ p. nat_lt p.1 (2 ^ 64)) amounts

-- each key has what the first m places give to it, which is less than 2^64
pub record HasSums (sums : Amounts) (places : ℕ → ℕ × ℕ) (m : ℕ) : Type 0 where
  pub formed : IsAmounts sums
  pub low : are_low sums ≡ true
  pub each : (q : ℕ) → amount_of sums q ≡ given q (map places (numbers_below m))
