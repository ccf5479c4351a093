-- Lists over numbers in a row: their elements, their ends, and what holds of each.
use Rattle.vyrd_memory.proofs.Prelude.{◌≡◌, ℕ, zero, suc, ◌+◌, ◌<◌, ◌≤◌, Bool, true, List, ◌++◌}
use Rattle.vyrd_memory.proofs.Prelude.{map, refl, ap, ◌∙◌, arith, ◌≢◌, ◌==◌, slice_index, drop}
use Rattle.vyrd_memory.proofs.Prelude.{flat_map, list_all, numbers_from, numbers_below, first_true}
use Rattle.vyrd_memory.proofs.Prelude.{second_true}

-- the element at a place is what the function gives for that number
pub element_from : (f : ℕ → ℕ) (k n i : ℕ) → i < n → slice_index (map f (numbers_from k n)) i
    ≡ f (k + i)
element_from f k zero i low = absurd (omega (arith, low))
element_from f k (suc n) zero low = let e : k ≡ k + 0 = omega arith in ap f e
element_from f k (suc n) (suc i) low = grind (arith, element_from f (k + 1) n i (omega arith))

pub element_below : (f : ℕ → ℕ) (n i : ℕ) → i < n → slice_index (map f (numbers_below n)) i ≡ f i
element_below f n i low = let e : 0 + i ≡ i = omega arith in element_from f 0 n i low ∙ ap f e

-- what is left after the first p numbers
pub drop-from : (f : ℕ → ℕ) (k p n : ℕ) → drop p (map f (numbers_from k (p + n)))
    ≡ map f (numbers_from (k + p) n)
drop-from f k zero n = grind arith
drop-from f k (suc p) n =
    let a : suc p + n ≡ suc (p + n) = omega arith in
    let b : k + 1 + p ≡ k + suc p = omega arith in
    cc (drop-from f (k + 1) p n)

-- a test that all pass, each does
pub all_pass : (test : ℕ → Bool) (k n : ℕ) → list_all test (numbers_from k n) ≡ true → (i : ℕ)
    → k ≤ i → i < k + n → test i ≡ true
all_pass test k zero all i from to = absurd (omega (arith, from, to))
all_pass test k (suc n) all i from to = by_place (k == i) refl
    (λ apart. all_pass test (k + 1) n (second_true (test k) _ all) i (omega arith) (omega arith))
  where
    by_place : (b : Bool) → (k == i) ≡ b → (k ≢ i → test i ≡ true) → test i ≡ true
    by_place b e later = search (first_true, arith)

-- what two functions give alike
pub flat_map_alike : {A : Type 0} (f g : ℕ → List A) (k n : ℕ)
    → ((i : ℕ) → k ≤ i → i < k + n → f i ≡ g i)
    → flat_map f (numbers_from k n) ≡ flat_map g (numbers_from k n)
flat_map_alike f g k zero same = refl
flat_map_alike f g k (suc n) same =
    ap (λ xs. xs ++ flat_map f (numbers_from (k + 1) n)) (same k (omega arith) (omega arith))
    ∙ ap (λ xs. g k ++ xs)
    (flat_map_alike f g (k + 1) n (λ i from to. same i (omega arith) (omega arith)))
