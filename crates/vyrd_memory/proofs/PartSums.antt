-- What parts give to a key where the part of one number changes.
use Rattle.vyrd_memory.proofs.Prelude.{◌≡◌, ℕ, zero, suc, ◌+◌, ◌<◌, ◌≤◌, Bool, true, false, List}
use Rattle.vyrd_memory.proofs.Prelude.{refl, ◌∙◌, arith, ◌≢◌, ◌==◌, flat_map, numbers_from, Amounts}
use Rattle.vyrd_memory.proofs.Prelude.{IsAmounts, amount_of, collected, given, same_amounts}
use Rattle.vyrd_memory.proofs.Prelude.{given-append, amount_of-collected, IsAmounts-collected}
use Rattle.vyrd_memory.proofs.NumberLists.{flat_map_alike}

-- the part of number i changes from f i to g i, and no other
pub given-changed : (f g : ℕ → List (ℕ × ℕ)) (q k n i : ℕ) → k ≤ i → i < k + n
    → ((j : ℕ) → k ≤ j → j < k + n → j ≢ i → f j ≡ g j)
    → given q (flat_map g (numbers_from k n)) + given q (f i)
    ≡ given q (flat_map f (numbers_from k n)) + given q (g i)
given-changed f g q k zero i from to same = absurd (omega (arith, from, to))
given-changed f g q k (suc n) i from to same = by_place (k == i) refl
    (λ apart. given-changed f g q (k + 1) n i (omega arith) (omega arith)
    (λ j low high. same j (omega arith) (omega arith)))
  where
    by_place : (b : Bool) → (k == i) ≡ b
        → (k ≢ i → given q (flat_map g (numbers_from (k + 1) n)) + given q (f i)
        ≡ given q (flat_map f (numbers_from (k + 1) n)) + given q (g i))
        → given q (flat_map g (numbers_from k (suc n))) + given q (f i)
        ≡ given q (flat_map f (numbers_from k (suc n))) + given q (g i)
    by_place true e later = search (flat_map_alike, given, given-append, arith)
    by_place false e later = search (given, given-append, arith)

-- the amounts of parts are those of a list of amounts where each key is given as much
pub collected-is : (parts : List (ℕ × ℕ)) (s : Amounts) → IsAmounts s
    → ((q : ℕ) → given q parts ≡ amount_of s q) → collected parts ≡ s
collected-is parts s is same = same_amounts (collected parts) s (IsAmounts-collected parts) is
    (λ q. amount_of-collected parts q ∙ same q)
