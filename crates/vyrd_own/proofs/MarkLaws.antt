-- Laws of keys that are marked.
use Rattle.vyrd_own.proofs.Prelude.{◌≡◌, ℕ, Bool, true, false, cond, ◌&&◌, [], ◌∷◌, Some, refl, ap}
use Rattle.vyrd_own.proofs.Prelude.{◌∙◌, sym, arith, ◌≢◌, ◌==◌, unwrap_or, min, nat_cmp, eq_by_cmp}
use Rattle.vyrd_own.proofs.Prelude.{is_lt, find, is_sorted, below_all, Amounts, IsAmounts}
use Rattle.vyrd_own.proofs.Prelude.{amount_of, with_amount, keys_of, AllSome, IsAmounts-with_amount}
use Rattle.vyrd_own.proofs.Prelude.{amount_of-with_amount, amounts_are, same_amount, marked}

marked_one : (a : ℕ) → a ≢ 0 → min a 1 ≡ 1
marked_one a some = omega (arith, some)

pub amount_of-marked : (s : Amounts) (q : ℕ) → amount_of (marked s) q ≡ min (amount_of s q) 1
amount_of-marked [] q = refl
amount_of-marked (e ∷ s) q =
    elim (eq_by_cmp nat_cmp q e.0) as (λ b. unwrap_or
    (cond b (Some (min e.1 1)) (find nat_cmp q (marked s))) 0
    ≡ min (unwrap_or (cond b (Some e.1) (find nat_cmp q s)) 0) 1) [
      | true ↦ refl
      | false ↦ amount_of-marked s q
    ]

-- a key that isn't marked isn't there
pub unmarked : (s m : Amounts) (q : ℕ) → m ≡ marked s → amount_of m q ≡ 0 → amount_of s q ≡ 0
unmarked s m q is none = grind (arith, amount_of-marked s q)

below-marked : (x : ℕ) (s : Amounts) → below_all nat_cmp x (marked s) ≡ below_all nat_cmp x s
below-marked x [] = refl
below-marked x (e ∷ s) = ap (λ b. is_lt (nat_cmp x e.0) && b) (below-marked x s)

rising-marked : (s : Amounts) → is_sorted nat_cmp (marked s) ≡ is_sorted nat_cmp s
rising-marked [] = refl
rising-marked (e ∷ s) = cc (below-marked e.0 s, rising-marked s)

some-marked : (s : Amounts) → AllSome s → AllSome (marked s)
some-marked [] all = tt
some-marked (e ∷ s) all = (λ none. omega (arith, none, all.0), some-marked s all.1)

pub IsAmounts-marked : (s : Amounts) → IsAmounts s → IsAmounts (marked s)
IsAmounts-marked s is = grind (arith, rising-marked s, is.rising, some-marked s is.some)

-- the keys are the same, as many, and with the same neighbours
pub keys_of-marked : (s : Amounts) → keys_of (marked s) ≡ keys_of s
keys_of-marked [] = refl
keys_of-marked (e ∷ s) = ap (λ ks. e.0 ∷ ks) (keys_of-marked s)

-- a key has another amount
pub marked_with : (s : Amounts) (k a : ℕ) → IsAmounts s → with_amount (marked s) k (min a 1)
    ≡ marked (with_amount s k a)
marked_with s k a is =
    sym (amounts_are (marked s) (marked (with_amount s k a)) k (min a 1) (IsAmounts-marked s is)
    (IsAmounts-marked (with_amount s k a) (IsAmounts-with_amount s k a is))
    (λ r. amount_of-marked (with_amount s k a) r ∙ ap (λ x. min x 1) (amount_of-with_amount s k a r)
    ∙ by_key r (r == k)))
  where
    by_key : (r : ℕ) (b : Bool) → min (cond b a (amount_of s r)) 1 ≡ cond b (min a 1)
        (amount_of (marked s) r)
    by_key r true = refl
    by_key r false = sym (amount_of-marked s r)

-- a key that is there has another amount, and stays
pub marked_stays : (s : Amounts) (k a : ℕ) → IsAmounts s → amount_of s k ≢ 0 → a ≢ 0 → marked s
    ≡ marked (with_amount s k a)
marked_stays s k a is some other =
    sym (same_amount (marked s) k (IsAmounts-marked s is))
    ∙ ap (with_amount (marked s) k) (amount_of-marked s k ∙ marked_one (amount_of s k) some
    ∙ sym (marked_one a other))
    ∙ marked_with s k a is
