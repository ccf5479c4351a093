-- Proofs of laws that an impl in src/ names: no contract says what is defined here.
-- How many slots are free, by what is known of each.
use Rattle.std.proofs.Common.{◌≡◌, ◌≢◌, ℕ, zero, suc, ◌+◌, ◌*◌, ◌<◌, ◌≤◌, Bool, true, false, cond}
use Rattle.std.proofs.Common.{refl, ap, subst, arith}
use Rattle.std.specs.Prelude.{◌==◌}
use Rattle.vyrd_base.proofs.TestLaws.{same_of, apart_of, isnt_same}
use Rattle.vyrd_memory.specs.Alone.{Memory}
use Rattle.vyrd_multiset.specs.Room.{free_from}

-- what a slot counts: 1 if it is free
abbrev counts : Memory → ℕ → ℕ
counts memory slot = cond (memory (2 * slot) == 0) 1 0

counts_one : (memory : Memory) (slot : ℕ) → memory (2 * slot) ≡ 0 → counts memory slot ≡ 1
counts_one memory slot e = ap (λ a. cond (a == 0) 1 0) e

counts_none : (memory : Memory) (slot : ℕ) → memory (2 * slot) ≢ 0 → counts memory slot ≡ 0
counts_none memory slot taken = ap (λ b. cond b 1 0) (isnt_same (memory (2 * slot)) 0 taken)

counts_at_most : (memory : Memory) (slot : ℕ) → counts memory slot ≤ 1
counts_at_most memory slot = elim (memory (2 * slot) == 0) as
    (λ b. cond b 1 0 ≤ 1) [ true ↦ omega arith | false ↦ omega arith ]

pub free_none : (memory : Memory) (left slot : ℕ)
    → ((j : ℕ) → slot ≤ j → j < slot + left → memory (2 * j) ≢ 0)
    → free_from memory slot left ≡ 0
free_none memory zero slot taken = refl
free_none memory (suc left) slot taken =
    omega (
      arith,
      counts_none memory slot (taken slot (omega arith) (omega arith)),
      free_none memory left (slot + 1)
          (λ j from to. taken j (omega (arith, from)) (omega (arith, to))),
    )

pub free_some : (memory : Memory) (left slot j : ℕ) → slot ≤ j → j < slot + left
    → memory (2 * j) ≡ 0
    → 1 ≤ free_from memory slot left
free_some memory zero slot j from to free = absurd (omega (arith, from, to))
free_some memory (suc left) slot j from to free =
    by_place (j == slot) refl (λ apart. free_some memory left (slot + 1) j
    (omega (arith, apart, from)) (omega (arith, to)) free)
  where
    by_place : (b : Bool) → (j == slot) ≡ b → (j ≢ slot → 1 ≤ free_from memory (slot + 1) left)
        → 1 ≤ free_from memory slot (suc left)
    by_place true e later = omega (
      arith,
      counts_one memory slot (subst (λ k. memory (2 * k) ≡ 0) (same_of j slot e) free),
    )
    by_place false e later = omega (arith, later (apart_of j slot e))

pub free_two : (memory : Memory) (left slot j k : ℕ) → slot ≤ j → j < slot + left → slot ≤ k
    → k < slot + left → j ≢ k → memory (2 * j) ≡ 0 → memory (2 * k) ≡ 0
    → 2 ≤ free_from memory slot left
free_two memory zero slot j k from_j to_j from_k to_k apart free_j free_k =
    absurd (omega (arith, from_j, to_j))
free_two memory (suc left) slot j k from_j to_j from_k to_k apart free_j free_k =
    by_place (j == slot) refl (k == slot) refl (λ not_j not_k. free_two memory left (slot + 1) j k
    (omega (arith, not_j, from_j)) (omega (arith, to_j)) (omega (arith, not_k, from_k))
    (omega (arith, to_k)) apart free_j free_k)
  where
    by_place : (b : Bool) → (j == slot) ≡ b → (d : Bool) → (k == slot) ≡ d
        → (j ≢ slot → k ≢ slot → 2 ≤ free_from memory (slot + 1) left)
        → 2 ≤ free_from memory slot (suc left)
    by_place true e true f later = let one = same_of j slot e in
        let other = same_of k slot f in absurd (omega (arith, apart, one, other))
    by_place true e false f later =
        let not_k = apart_of k slot f in
        omega (
          arith,
          counts_one memory slot (subst (λ i. memory (2 * i) ≡ 0) (same_of j slot e) free_j),
          free_some memory left (slot + 1) k (omega (arith, not_k, from_k)) (omega (arith, to_k))
              free_k,
        )
    by_place false e true f later =
        let not_j = apart_of j slot e in
        omega (
          arith,
          counts_one memory slot (subst (λ i. memory (2 * i) ≡ 0) (same_of k slot f) free_k),
          free_some memory left (slot + 1) j (omega (arith, not_j, from_j)) (omega (arith, to_j))
              free_j,
        )
    by_place false e false f later = omega (arith, later (apart_of j slot e) (apart_of k slot f))

pub free_one_at_most : (memory : Memory) (left slot j : ℕ)
    → ((k : ℕ) → slot ≤ k → k < slot + left → k ≢ j → memory (2 * k) ≢ 0)
    → free_from memory slot left ≤ 1
free_one_at_most memory zero slot j taken = omega arith
free_one_at_most memory (suc left) slot j taken =
    by_place (slot == j) refl (free_one_at_most memory left (slot + 1) j
    (λ k from to. taken k (omega (arith, from)) (omega (arith, to))))
  where
    by_place : (b : Bool) → (slot == j) ≡ b → free_from memory (slot + 1) left ≤ 1
        → free_from memory slot (suc left) ≤ 1
    by_place true e later =
        let at : slot ≡ j = same_of slot j e in
        omega (
          arith,
          counts_at_most memory slot,
          free_none memory left (slot + 1) (λ k from to. taken k (omega (arith, from))
              (omega (arith, to)) (omega (arith, from, at))),
        )
    by_place false e later = omega (
      arith,
      later,
      counts_none memory slot (taken slot (omega arith) (omega arith) (apart_of slot j e)),
    )
