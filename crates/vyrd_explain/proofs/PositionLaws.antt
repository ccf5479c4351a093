-- The first of the numbers below a bound for which there is an answer, looked for one by one.
use Rattle.std.proofs.Common.{◌≡◌, ℕ, ◌+◌, ◌-◌, ◌<◌, ◌∷◌, Option, Some, None, ap, arith}
use Rattle.std.specs.Option.{option_or}
use Rattle.vyrd_base.specs.Places.{first_answer, numbers_from}

numbers_next : (k n : ℕ) → k < n → numbers_from k (n - k) ≡ k ∷ numbers_from (k + 1) (n - (k + 1))
numbers_next k n low = grind arith

-- what is found at the first of them, or behind it
looked : (f : ℕ → Option ℕ) (k n : ℕ) → k < n → first_answer f (numbers_from k (n - k))
    ≡ option_or (f k) (first_answer f (numbers_from (k + 1) (n - (k + 1))))
looked f k n low = ap (first_answer f) (numbers_next k n low)

pub found : (f : ℕ → Option ℕ) (k n a : ℕ) → k < n → f k ≡ Some a
    → first_answer f (numbers_from k (n - k)) ≡ Some a
found f k n a low e = cc (looked f k n low)

pub passed : (f : ℕ → Option ℕ) (k n : ℕ) → k < n → f k ≡ None
    → first_answer f (numbers_from k (n - k))
    ≡ first_answer f (numbers_from (k + 1) (n - (k + 1)))
passed f k n low e = cc (looked f k n low)
