-- What a question to an ordered map costs.
use Rattle.vyrd_table.proofs.Prelude.{◌≡◌, ℕ, zero, suc, Bool, true, false, cond, ◌+◌, ◌-◌, ◌*◌}
use Rattle.vyrd_table.proofs.Prelude.{◌^◌, ◌<◌, ◌≤◌, refl, arith, nat_le, nat_lt, pow_mono}
use Rattle.vyrd_table.proofs.Prelude.{nat_tests}
use Rattle.std.specs.Int.Count.{count_leading_zeros, leading_unique}
use Rattle.vyrd_table.specs.Prices.{digits, question}

pub doubled : (d : ℕ) → 2 ^ suc d ≡ 2 * 2 ^ d
doubled d = omega arith

-- a number is below 2 to the power of its digits, and no number of half that size has so many
pub digits_fit : (n : ℕ) → (n < 2 ^ digits n) × (2 ^ digits n ≤ 2 * n + 1)
unfolding digits
digits_fit zero = (omega arith, omega arith)
digits_fit (suc n) = by_test (nat_le _ _) refl (digits_fit n)
  where
    by_test : (b : Bool) → nat_le (2 ^ digits n) (suc n) ≡ b → (n < 2 ^ digits n)
        × (2 ^ digits n ≤ 2 * n + 1)
        → (suc n < 2 ^ cond b (suc (digits n)) (digits n))
        × (2 ^ cond b (suc (digits n)) (digits n) ≤ 2 * suc n + 1)
    by_test true e fit = grind arith
    by_test false e fit = grind arith

-- what the processor counts
pub digits_counted : (n : ℕ) → n < 2 ^ 64 → 64 - count_leading_zeros 64 n ≡ digits n
digits_counted n fits =
    let fit = digits_fit n in
    let few : digits n ≤ 64 = at_most (digits n) fit.1 in
    let is : 64 - digits n ≡ count_leading_zeros 64 n = leading_unique _ n _ (digits n)
    (omega (arith, few)) fit.0 fit.1 in
    omega (arith, few, is)
  where
    at_most : (d : ℕ) → 2 ^ d ≤ 2 * n + 1 → d ≤ 64
    at_most d low = by_test (nat_lt _ d) refl
      where
        by_test : (b : Bool) → nat_lt 64 d ≡ b → d ≤ 64
        by_test true e = grind (arith, pow_mono {i = 65} {j = d} (grind (arith, nat_tests)))
        by_test false e = grind (arith, nat_tests)

-- a greater number has no fewer digits
digits_next : (n : ℕ) → digits n ≤ digits (suc n)
unfolding digits
digits_next n = search arith

pub digits_mono : (a b : ℕ) → a ≤ b → digits a ≤ digits b
digits_mono a zero le = grind arith
digits_mono a (suc b) le = by_test (nat_le a b) refl (digits_mono a b)
  where
    by_test : (t : Bool) → nat_le a b ≡ t → (a ≤ b → digits a ≤ digits b) → digits a
        ≤ digits (suc b)
    by_test true e lower = omega (arith, lower (grind (arith, nat_tests)), digits_next b)
    by_test false e lower = grind arith

pub question_mono : (a b : ℕ) → a ≤ b → question a ≤ question b
question_mono a b le = omega (arith, digits_mono a b le)

-- a number below 2^d has d digits at most
pub digits_below : (n d : ℕ) → n < 2 ^ d → digits n ≤ d
digits_below n d low = by_test (nat_lt d (digits n)) refl
  where
    by_test : (b : Bool) → nat_lt d (digits n) ≡ b → digits n ≤ d
    by_test true e =
        let fit = digits_fit n in
        let up = pow_mono {i = suc d} {j = digits n} (grind (arith, nat_tests)) in
        absurd (omega (arith, up, doubled d, fit.1, low))
    by_test false e = grind (arith, nat_tests)
