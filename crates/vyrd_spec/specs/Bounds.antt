-- What holds of each key with its amount.
use Rattle.std.specs.Prelude.{◌≢◌, ℕ, ◌+◌, ◌*◌, ◌^◌, ◌<◌, ◌≤◌}
use Rattle.std.proofs.Common.{arith}
use Rattle.vyrd_base.specs.Amounts.{Amounts, amount_of}

-- whether each key whose amount isn't 0 passes with it
abbrev pub AllAmounts : (ℕ → ℕ → Type 0) → Amounts → Type 0
AllAmounts passes amounts =
    (key : ℕ) → amount_of amounts key ≢ 0 → passes key (amount_of amounts key)

-- A multiset that begins with a value in each slot has each value at most this often after that
-- many steps, since a step adds two at most.
abbrev pub most_after : ℕ → ℕ
most_after made = 2 * made + 4096

-- The counts of a multiset after at most 2^62 steps are below 2^64.
pub small_counts : (made : ℕ) (counts : Amounts) → made ≤ 2 ^ 62
    → AllAmounts (λ value count. (value < 2 ^ 63) × (count ≤ most_after made)) counts
    → AllAmounts (λ value count. (value < 2 ^ 63) × (count < 2 ^ 64)) counts
small_counts made counts few small =
    λ value some. let here = small value some in (here.0, omega (arith, here.1))

-- Chunks are few.
pub small_chunks : (pairs : Amounts)
    → AllAmounts (λ chunk pair. (chunk < 2 ^ 32) × (pair < 2 ^ 64)) pairs
    → AllAmounts (λ chunk pair. (chunk < 2 ^ 63) × (pair < 2 ^ 64)) pairs
small_chunks pairs small =
    λ chunk some. let here = small chunk some in (omega (arith, here.0), here.1)

-- The keys of a tree have 32 bits.
pub small_values : (values : Amounts)
    → AllAmounts (λ key amount. (key < 2 ^ 32) × (2 ^ 32 ≤ amount) × (amount < 2 ^ 64)) values
    → AllAmounts (λ key amount. (key < 2 ^ 63) × (amount < 2 ^ 64)) values
small_values values small = λ key some. let here = small key some in (omega (arith, here.0), here.2)

-- buffers, and texts of at most 7 characters
abbrev pub AreTexts : Amounts → Type 0
AreTexts texts = AllAmounts (λ buffer text. (buffer < 2 ^ 32) × (text < 256 ^ 7)) texts

-- Buffers are few.
pub small_texts : (texts : Amounts) → AreTexts texts
    → AllAmounts (λ buffer text. (buffer < 2 ^ 63) × (text < 2 ^ 64)) texts
small_texts texts small =
    λ buffer some. let here = small buffer some in (omega (arith, here.0), omega (arith, here.1))
