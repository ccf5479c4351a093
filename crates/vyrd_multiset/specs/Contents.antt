-- What a memory holds that represents a state of the multiset.
use Rattle.std.specs.Prelude.{◌≡◌, ℕ, ◌+◌, ◌*◌, ◌%◌, ◌/◌, ◌<◌, ◌==◌, List, [], ◌∷◌}
use Rattle.std.specs.Prelude.{flat_map, if◌then◌else◌}
use Rattle.vyrd_base.specs.declared.header.Header.{Header}
use Rattle.vyrd_base.specs.Places.{numbers_below}
use Rattle.vyrd_base.specs.Amounts.{Amounts, IsAmounts, amount_of, given}
use Rattle.vyrd_memory.specs.Alone.{Memory}

-- what slot i gives
abbrev pub parts_in : Memory → ℕ → List (ℕ × ℕ)
parts_in memory i = if memory (2 * i) == 2 then (memory (2 * i + 1), 1) ∷ [] else []

-- valid slots have values of their bucket, all locks are free, and each key is given its amount
pub record IsMultiset (h : Header) (memory : Memory) (state : Amounts) : Type 0 where
  pub sound : (i : ℕ) → i < 4 * h.size → memory (2 * i) ≡ 2 → memory (2 * i + 1) % h.size ≡ i / 4
  pub free : (b : ℕ) → b < h.size → memory (8 * h.size + b) ≡ 0
  pub shows : (q : ℕ)
      → given q (flat_map (parts_in memory) (numbers_below (4 * h.size))) ≡ amount_of state q
  pub formed : IsAmounts state
