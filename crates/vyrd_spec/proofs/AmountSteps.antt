-- A step of one amount and back.
use Rattle.vyrd_spec.proofs.Prelude.{◌≡◌, ◌≤◌, ℕ, ◌+◌, ◌-◌, Bool, cond, refl, ◌∙◌, arith, ◌==◌}
use Rattle.vyrd_spec.proofs.Prelude.{Amounts, IsAmounts, amount_of, with_amount, plus_amount}
use Rattle.vyrd_spec.proofs.Prelude.{amount_of-with_amount, IsAmounts-with_amount, same_amounts}
use Rattle.vyrd_spec.proofs.Prelude.{same_of, same_number}

-- the amount that a key was given
pub amount_given : (s : Amounts) (k a : ℕ) → amount_of (with_amount s k a) k ≡ a
amount_given s k a = cc (amount_of-with_amount s k a k, same_number k)

-- an amount that is given back
pub given_back : (s : Amounts) (k a : ℕ) → IsAmounts s → with_amount (with_amount s k a) k
    (amount_of s k) ≡ s
given_back s k a is = same_amounts _ s
    (IsAmounts-with_amount (with_amount s k a) k _ (IsAmounts-with_amount s k a is)) is
    (λ q. amount_of-with_amount _ k _ q ∙ by_key q (q == k) refl)
  where
    by_key : (q : ℕ) (b : Bool) → (q == k) ≡ b
        → cond b (amount_of s k) (amount_of (with_amount s k a) q) ≡ amount_of s q
    by_key q b e = search (same_of, amount_of-with_amount, arith)

-- one more and one less
pub one_back : (s : Amounts) (k : ℕ) → IsAmounts s → with_amount (plus_amount s k 1) k
    (amount_of (plus_amount s k 1) k - 1) ≡ s
one_back s k is =
    grind (arith, amount_given s k (amount_of s k + 1), given_back s k (amount_of s k + 1) is)

-- one more of a key is at most one more of each
pub one_more_at_most : (s : Amounts) (k q : ℕ) → amount_of (plus_amount s k 1) q ≤ amount_of s q + 1
one_more_at_most s k q = grind (arith, amount_of-with_amount, same_of)
