use Rattle.std.proofs.Common.{◌≡◌, ◌<◌, ◌≤◌, ℕ, Bool, true, false, refl, arith}
use Rattle.std.specs.Prelude.{nat_lt}
use Rattle.vyrd_base.proofs.TestLaws.{below_of, not_below_of}
use Rattle.vyrd_observers.proofs.trails.find.Goals as goal

pub returns-clause-none : goal.returns-clause-none
returns-clause-none g c = λ i t here is. by_place i c.loop-i.i
    (λ low. absurd (c.loop-i.invariant.none i t low here is))
    (λ high. let free = c.requires.free i t (omega (arith, high, c.loop-i-test.false)) here in
    absurd (false_true free is.0))
  where
    false_true : {b : Bool} → b ≡ false → b ≡ true → ⊥
    false_true is_false is_true = cc

    by_place : {P : Type 0} (i n : ℕ) → (i < n → P) → (n ≤ i → P) → P
    by_place {P} i n low high = by_test (nat_lt i n) refl
      where
        by_test : (b : Bool) → nat_lt i n ≡ b → P
        by_test true e = low (below_of i n e)
        by_test false e = high (not_below_of i n e)
