-- What tests joined by `or`, and tests of numbers in a row, tell.
use Rattle.vyrd_mover.proofs.Prelude.{◌≡◌, ℕ, zero, suc, ◌+◌, ◌<◌, ◌≤◌, Bool, true, false, not}
use Rattle.vyrd_mover.proofs.Prelude.{◌||◌, ◌⊎◌, refl, arith, list_any, ◌==◌, same_of, apart_of}
use Rattle.vyrd_mover.proofs.Prelude.{numbers_from}

pub either_true : (a b : Bool) → (a || b) ≡ true → (a ≡ true) ⊎ (b ≡ true)
either_true a b e = search arith

pub implied : (a b : Bool) → (not a || b) ≡ true → a ≡ true → b ≡ true
implied a b e f = search arith

pub implies : (a b : Bool) → (a ≡ true → b ≡ true) → (not a || b) ≡ true
implies a b h = search arith

pub true_or_false : (b : Bool) → (b ≡ true) ⊎ (b ≡ false)
true_or_false b = search arith

-- a number of a row at which the test gives true
abbrev pub Found : (ℕ → Bool) → ℕ → ℕ → Type 0
Found test k n = (x : ℕ) × (k ≤ x) × (x < k + n) × (test x ≡ true)

wider : (test : ℕ → Bool) (k n : ℕ) → Found test (k + 1) n → Found test k (suc n)
wider test k n found = (found.0, omega arith, omega arith, found.3)

first_or_later : (test : ℕ → Bool) (k n : ℕ)
    → (list_any test (numbers_from (k + 1) n) ≡ true → Found test (k + 1) n)
    → (test k ≡ true) ⊎ (list_any test (numbers_from (k + 1) n) ≡ true) → Found test k (suc n)
first_or_later test k n later e4 = search (wider, arith)

pub any_tells : (test : ℕ → Bool) (k n : ℕ) → list_any test (numbers_from k n) ≡ true
    → Found test k n
any_tells test k zero e = cc
any_tells test k (suc n) e = first_or_later _ k n (any_tells test (k + 1) n) (either_true _ _ e)

here_or_later : (test : ℕ → Bool) (k n x : ℕ) → k ≤ x → x < k + suc n → test x ≡ true
    → (k + 1 ≤ x → x < k + 1 + n → list_any test (numbers_from (k + 1) n) ≡ true) → (b : Bool)
    → (k == x) ≡ b
    → list_any test (numbers_from k (suc n)) ≡ true
here_or_later test k n x low high e later b same = grind (arith, same_of, apart_of)

pub tells_any : (test : ℕ → Bool) (k n x : ℕ) → k ≤ x → x < k + n → test x ≡ true
    → list_any test (numbers_from k n) ≡ true
tells_any test k zero x low high e = absurd (omega arith)
tells_any test k (suc n) x low high e =
    here_or_later test k n x low high e (λ l h. tells_any test (k + 1) n x l h e) (k == x) refl
