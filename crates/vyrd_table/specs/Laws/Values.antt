-- Which values of a kind are nothing.
use Rattle.std.specs.Prelude.{◌≡◌, ℕ, true, ◌==◌}
use Rattle.vyrd_base.proofs.TestLaws.{same_of}

-- an amount that passes the test is 0
pub only_zero : (amount : ℕ) → (amount == 0) ≡ true → amount ≡ 0
only_zero amount is = same_of amount 0 is
