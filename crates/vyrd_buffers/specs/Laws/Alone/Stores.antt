-- Proofs of laws that an impl in src/ names: no contract says what is defined here. What the cells
-- of a memory hold after locks were taken and given back, and after characters and a count were
-- stored.
use Rattle.std.proofs.Common.{◌≡◌, ◌≢◌, ℕ, zero, suc, ◌+◌, ◌*◌, ◌/◌, ◌<◌, ◌≤◌, Bool, true, false}
use Rattle.std.proofs.Common.{cond, List, [], ◌∷◌, length, refl, ap, ◌∙◌, sym, subst, arith}
use Rattle.std.specs.Prelude.{◌==◌, slice_index}
use Rattle.vyrd_base.specs.declared.header.Header.{Header}
use Rattle.vyrd_base.proofs.TestLaws.{same_of}
use Rattle.vyrd_memory.specs.Alone.{Memory, with_cell}
use Rattle.vyrd_memory.proofs.Memories.{changed_cell, other_cell}
use Rattle.vyrd_memory.proofs.AloneLaws.{given_back}
use Rattle.vyrd_buffers.specs.Cells.{count_cell, character_cell, lock_of}
use Rattle.vyrd_buffers.specs.Contents.{buffer_of}
use Rattle.vyrd_buffers.specs.Laws.Alone.Changes.{Alike}
use Rattle.vyrd_buffers.specs.Laws.Alone.Texts.{Appended, Cut}

-- the words of all buffers of this many are the same, whatever the locks are
abbrev pub SameWords : ℕ → Memory → Memory → Type 0
SameWords size old new = (cell : ℕ) → cell < 8 * size → new cell ≡ old cell

pub same_buffer : (size : ℕ) (old new : Memory) (b : ℕ) → SameWords size old new → b < size
    → Alike (buffer_of new b) (buffer_of old b)
same_buffer size old new b same low = record {
  count = same (8 * b) (omega arith);
  characters = λ i few. same (8 * b + (1 + i)) (omega arith);
}

-- the memory with a lock held
abbrev pub held : ℕ → ℕ → Memory → Memory
held c lock memory = with_cell memory lock (c + 1)

-- the words stay the same if a lock changes
pub lock_changed : (h : Header) (b value : ℕ) (memory : Memory)
    → SameWords h.size memory (with_cell memory (lock_of h b) value)
lock_changed h b value memory cell low =
    other_cell memory (lock_of h b) value cell (omega (arith, low))

-- the memory with the locks of two buffers held, which may be one
abbrev pub both_held : Header → ℕ → ℕ → ℕ → Memory → Memory
both_held h c first second memory =
    cond (first == second) (held c (lock_of h first) memory)
    (held c (lock_of h second) (held c (lock_of h first) memory))

pub both_held-other : (h : Header) (c first second : ℕ) (memory : Memory) (cell : ℕ)
    → cell ≢ lock_of h first → cell ≢ lock_of h second
    → both_held h c first second memory cell ≡ memory cell
both_held-other h c first second memory cell apart other = by_test (first == second)
  where
    by_test : (same : Bool)
        → cond same (held c (lock_of h first) memory)
        (held c (lock_of h second) (held c (lock_of h first) memory)) cell
        ≡ memory cell
    by_test true = other_cell memory (lock_of h first) (c + 1) cell apart
    by_test false =
        other_cell (held c (lock_of h first) memory) (lock_of h second) (c + 1) cell other
        ∙ other_cell memory (lock_of h first) (c + 1) cell apart

pub both_held-words : (h : Header) (c first second : ℕ) (memory : Memory)
    → SameWords h.size memory (both_held h c first second memory)
both_held-words h c first second memory cell low =
    both_held-other h c first second memory cell (omega (arith, low)) (omega (arith, low))

-- the memory after both locks were given back
abbrev pub both_given : Header → ℕ → ℕ → Memory → Memory
both_given h first second memory =
    with_cell (cond (first == second) memory (with_cell memory (lock_of h second) 0))
    (lock_of h first) 0

pub both_given-words : (h : Header) (first second : ℕ) (memory : Memory)
    → SameWords h.size memory (both_given h first second memory)
both_given-words h first second memory cell low =
    other_cell (cond (first == second) memory (with_cell memory (lock_of h second) 0))
    (lock_of h first) 0 cell (omega (arith, low))
    ∙ by_test (first == second)
  where
    by_test : (same : Bool)
        → cond same memory (with_cell memory (lock_of h second) 0) cell ≡ memory cell
    by_test true = refl
    by_test false = other_cell memory (lock_of h second) 0 cell (omega (arith, low))

-- if both were free, the cell is as it was
pub both_given-back : (h : Header) (first second : ℕ) (before during : Memory) (cell : ℕ)
    → before (lock_of h first) ≡ 0 → before (lock_of h second) ≡ 0
    → (cell ≢ lock_of h first → cell ≢ lock_of h second → during cell ≡ before cell)
    → both_given h first second during cell ≡ before cell
both_given-back h first second before during cell free free_other same =
    given_back before (cond (first == second) during (with_cell during (lock_of h second) 0))
    (lock_of h first) cell free
    (by_test (first == second) refl)
  where
    by_test : (one : Bool) → (first == second) ≡ one → cell ≢ lock_of h first
        → cond one during (with_cell during (lock_of h second) 0) cell ≡ before cell
    by_test true e apart =
        same apart (subst (λ n. cell ≢ lock_of h n) (same_of first second e) apart)
    by_test false e apart = given_back before during (lock_of h second) cell free_other (same apart)

-- that many characters of a buffer from character i on
abbrev pub loaded : Memory → ℕ → ℕ → ℕ → List ℕ
loaded memory s zero i = []
loaded memory s (suc left) i = memory (character_cell s i) ∷ loaded memory s left (i + 1)

pub loaded-length : (memory : Memory) (s left i : ℕ) → length (loaded memory s left i) ≡ left
loaded-length memory s zero i = refl
loaded-length memory s (suc left) i = ap (λ n. suc n) (loaded-length memory s left (i + 1))

pub loaded-at : (memory : Memory) (s left i j : ℕ) → j < left
    → slice_index (loaded memory s left i) j ≡ memory (character_cell s (i + j))
loaded-at memory s zero i j low = absurd (omega (arith, low))
loaded-at memory s (suc left) i zero low =
    let e : i ≡ i + 0 = omega arith in ap (λ n. memory (character_cell s n)) e
loaded-at memory s (suc left) i (suc j) low =
    let e : i + 1 + j ≡ i + suc j = omega arith in
    loaded-at memory s left (i + 1) j (omega arith) ∙ ap (λ n. memory (character_cell s n)) e

-- the memory after these were stored as the characters of a buffer from character i on
abbrev pub with_characters : List ℕ → ℕ → ℕ → Memory → Memory
with_characters [] b i memory = memory
with_characters (character ∷ characters) b i memory =
    with_characters characters b (i + 1) (with_cell memory (character_cell b i) character)

pub with_characters-other : (characters : List ℕ) (b i : ℕ) (memory : Memory) (cell : ℕ)
    → ((j : ℕ) → i ≤ j → j < i + length characters → cell ≢ character_cell b j)
    → with_characters characters b i memory cell ≡ memory cell
with_characters-other [] b i memory cell apart = refl
with_characters-other (character ∷ characters) b i memory cell apart =
    with_characters-other characters b (i + 1) (with_cell memory (character_cell b i) character)
    cell
    (λ j from to. apart j (omega arith) (omega arith))
    ∙ other_cell memory (character_cell b i) character cell (apart i (omega arith) (omega arith))

pub with_characters-at : (characters : List ℕ) (b i : ℕ) (memory : Memory) (j : ℕ)
    → j < length characters
    → with_characters characters b i memory (character_cell b (i + j)) ≡ slice_index characters j
with_characters-at [] b i memory j low = absurd (omega (arith, low))
with_characters-at (character ∷ characters) b i memory zero low =
    let e : i + 0 ≡ i = omega arith in
    ap (λ n. with_characters (character ∷ characters) b i memory (character_cell b n)) e
    ∙ with_characters-other characters b (i + 1) (with_cell memory (character_cell b i) character)
    (character_cell b i)
    (λ j from to. omega (arith, from))
    ∙ changed_cell memory (character_cell b i) character
with_characters-at (character ∷ characters) b i memory (suc j) low =
    let e : i + suc j ≡ i + 1 + j = omega arith in
    ap (λ n. with_characters (character ∷ characters) b i memory (character_cell b n)) e
    ∙ with_characters-at characters b (i + 1) (with_cell memory (character_cell b i) character) j
    (omega arith)

-- the memory after these were appended to buffer b, whose count was this
abbrev pub with_appended : List ℕ → ℕ → ℕ → ℕ → Memory → Memory
with_appended characters b count more memory =
    with_cell (with_characters characters b count memory) (count_cell b) (count + more)

pub with_appended-other : (characters : List ℕ) (b count more : ℕ) (memory : Memory) (cell : ℕ)
    → length characters ≡ more → count + more ≤ 7 → cell / 8 ≢ b
    → with_appended characters b count more memory cell ≡ memory cell
with_appended-other characters b count more memory cell many few apart =
    other_cell (with_characters characters b count memory) (count_cell b) (count + more) cell
    (omega (arith, apart))
    ∙ with_characters-other characters b count memory cell
    (λ j from to. omega (arith, apart, many, few, to))

pub with_appended-is : (characters : List ℕ) (b count more : ℕ) (memory : Memory)
    → memory (count_cell b) ≡ count → length characters ≡ more
    → Appended (buffer_of memory b) (buffer_of (with_appended characters b count more memory) b)
    (slice_index characters) more
with_appended-is characters b count more memory is many = record {
  count = changed_cell (with_characters characters b count memory) (count_cell b) (count + more)
      ∙ ap (λ n. n + more) (sym is);
  kept = λ i low.
      apart i ∙ with_characters-other characters b count memory (character_cell b i)
      (λ j from to. omega (arith, low, is, from));
  added = λ i low.
      apart (memory (count_cell b) + i)
      ∙ ap (λ n. with_characters characters b count memory (character_cell b (n + i))) is
      ∙ with_characters-at characters b count memory i (omega (arith, low, many));
}
  where
    apart : (i : ℕ) → with_appended characters b count more memory (character_cell b i)
        ≡ with_characters characters b count memory (character_cell b i)
    apart i = other_cell (with_characters characters b count memory) (count_cell b) (count + more)
        (character_cell b i) (omega arith)

-- the memory after a buffer was cut to n characters
pub with_count-other : (b n : ℕ) (memory : Memory) (cell : ℕ) → cell / 8 ≢ b
    → with_cell memory (count_cell b) n cell ≡ memory cell
with_count-other b n memory cell apart =
    other_cell memory (count_cell b) n cell (omega (arith, apart))

pub with_count-is : (b n : ℕ) (memory : Memory)
    → Cut (buffer_of memory b) (buffer_of (with_cell memory (count_cell b) n) b) n
with_count-is b n memory = record {
  count = changed_cell memory (count_cell b) n;
  kept = λ i low. other_cell memory (count_cell b) n (character_cell b i) (omega arith);
}
