-- Proofs of laws that an impl in src/ names: no contract says what is defined here.
-- How the parts of the procedures are played alone.
use Rattle.std.proofs.Common.{◌≡◌, ◌≢◌, ℕ, zero, suc, ◌+◌, ◌*◌, ◌<◌, ◌≤◌, Bool, true, false, cond}
use Rattle.std.proofs.Common.{Option, Some, None, refl, sym, subst, arith}
use Rattle.std.specs.Prelude.{◌==◌}
use Rattle.vyrd_base.proofs.TestLaws.{same_of, apart_of}
use Rattle.vyrd_memory.specs.Scripts.{Script}
use Rattle.vyrd_memory.specs.Alone.{Memory, with_cell, alone}
use Rattle.vyrd_memory.proofs.AloneLaws.{EndsSo}
use Rattle.vyrd_multiset.specs.Cells.{state_cell, value_cell}
use Rattle.vyrd_multiset.specs.Procedures.{find_from, reserve, compare, search_from}

-- the memory after a slot was reserved
abbrev pub with_reserved : Memory → ℕ → ℕ → Memory
with_reserved memory slot value =
    with_cell (with_cell memory (value_cell slot) value) (state_cell slot) 1

-- A free slot is found among the slots from this one on, or all of them have another state.
pub find_from_played : (c : ℕ) (memory : Memory) (Q : ℕ → Memory → Type 0) (left slot value : ℕ)
    (found : Option ℕ → Script)
    → ((j : ℕ) → slot ≤ j → j < slot + left → memory (2 * j) ≡ 0
    → EndsSo (alone c (found (Some j)) (with_reserved memory j value)) Q)
    → (((j : ℕ) → slot ≤ j → j < slot + left → memory (2 * j) ≢ 0)
    → EndsSo (alone c (found None) memory) Q)
    → EndsSo (alone c (find_from left slot value found) memory) Q
find_from_played c memory Q zero slot value found some none =
    none (λ j from to. absurd (omega (arith, from, to)))
find_from_played c memory Q (suc left) slot value found some none =
    by_state (memory (2 * slot) == 0) refl
    (λ more. find_from_played c memory Q left (slot + 1) value found
    (λ j from to. some j (omega (arith, from)) (omega (arith, to))) more)
  where
    no_more : memory (2 * slot) ≢ 0
        → ((j : ℕ) → slot + 1 ≤ j → j < slot + 1 + left → memory (2 * j) ≢ 0) → (j : ℕ) → slot ≤ j
        → j < slot + suc left → memory (2 * j) ≢ 0
    no_more here more j from to = by_place (j == slot) refl
      where
        by_place : (b : Bool) → (j == slot) ≡ b → memory (2 * j) ≢ 0
        by_place true e = subst (λ k. memory (2 * k) ≢ 0) (sym (same_of j slot e)) here
        by_place false e =
            let apart = apart_of j slot e in more j (omega (arith, apart, from)) (omega (arith, to))

    by_state : (b : Bool) → (memory (2 * slot) == 0) ≡ b
        → ((((j : ℕ) → slot + 1 ≤ j → j < slot + 1 + left → memory (2 * j) ≢ 0)
        → EndsSo (alone c (found None) memory) Q)
        → EndsSo (alone c (find_from left (slot + 1) value found) memory) Q)
        → EndsSo (alone c (cond b (reserve slot value (found (Some slot)))
        (find_from left (slot + 1) value found)) memory) Q
    by_state true e later = some slot (omega arith) (omega arith) (same_of (memory (2 * slot)) 0 e)
    by_state false e later = later (λ more. none (no_more (apart_of (memory (2 * slot)) 0 e) more))

-- A search ends at a valid slot with the value, or no slot from this one on is one.
pub search_from_played : (c : ℕ) (memory : Memory) (Q : ℕ → Memory → Type 0) (left slot value : ℕ)
    (ended : Option ℕ → Script)
    → ((j : ℕ) → slot ≤ j → j < slot + left → memory (2 * j) ≡ 2 → memory (2 * j + 1) ≡ value
    → EndsSo (alone c (ended (Some j)) memory) Q)
    → (((j : ℕ) → slot ≤ j → j < slot + left → memory (2 * j) ≡ 2 → memory (2 * j + 1) ≡ value → ⊥)
    → EndsSo (alone c (ended None) memory) Q)
    → EndsSo (alone c (search_from left slot value ended) memory) Q
search_from_played c memory Q zero slot value ended some none =
    none (λ j from to valid has. absurd (omega (arith, from, to)))
search_from_played c memory Q (suc left) slot value ended some none =
    by_state (memory (2 * slot) == 2) refl (λ here. search_from_played c memory Q left (slot + 1)
    value ended (λ j from to. some j (omega (arith, from)) (omega (arith, to)))
    (λ more. none (no_more here more)))
  where
    no_more : (memory (2 * slot) ≡ 2 → memory (2 * slot + 1) ≡ value → ⊥)
        → ((j : ℕ) → slot + 1 ≤ j → j < slot + 1 + left → memory (2 * j) ≡ 2
        → memory (2 * j + 1) ≡ value → ⊥)
        → (j : ℕ) → slot ≤ j → j < slot + suc left → memory (2 * j) ≡ 2 → memory (2 * j + 1) ≡ value
        → ⊥
    no_more here more j from to = by_place (j == slot) refl
      where
        by_place : (b : Bool) → (j == slot) ≡ b → memory (2 * j) ≡ 2 → memory (2 * j + 1) ≡ value
            → ⊥
        by_place true e = subst (λ k. memory (2 * k) ≡ 2 → memory (2 * k + 1) ≡ value → ⊥)
            (sym (same_of j slot e)) here
        by_place false e =
            let apart = apart_of j slot e in more j (omega (arith, apart, from)) (omega (arith, to))

    by_value : memory (2 * slot) ≡ 2 → (b : Bool) → (memory (2 * slot + 1) == value) ≡ b
        → ((memory (2 * slot) ≡ 2 → memory (2 * slot + 1) ≡ value → ⊥)
        → EndsSo (alone c (search_from left (slot + 1) value ended) memory) Q)
        → EndsSo
        (alone c (cond b (ended (Some slot)) (search_from left (slot + 1) value ended)) memory) Q
    by_value valid true e on =
        some slot (omega arith) (omega arith) valid (same_of (memory (2 * slot + 1)) value e)
    by_value valid false e on = on (λ v has. apart_of (memory (2 * slot + 1)) value e has)

    by_state : (b : Bool) → (memory (2 * slot) == 2) ≡ b
        → ((memory (2 * slot) ≡ 2 → memory (2 * slot + 1) ≡ value → ⊥)
        → EndsSo (alone c (search_from left (slot + 1) value ended) memory) Q)
        → EndsSo (alone c (cond b (compare slot value (ended (Some slot)) (search_from left
        (slot + 1) value ended)) (search_from left (slot + 1) value ended)) memory) Q
    by_state true e on =
        by_value (same_of (memory (2 * slot)) 2 e) (memory (2 * slot + 1) == value) refl on
    by_state false e on = on (λ valid has. apart_of (memory (2 * slot)) 2 e valid)
