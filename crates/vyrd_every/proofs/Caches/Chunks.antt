-- What is known of a chunk while its lock is held, and what a block that stores into it makes of
-- the state.
use Rattle.vyrd_every.proofs.Prelude.{◌≡◌, ◌≢◌, ℕ, ◌+◌, ◌*◌, ◌<◌, ◌≤◌, true, ap, ◌∙◌, subst, arith}
use Rattle.vyrd_every.proofs.Prelude.{Header, Cache, Amounts, with_amount, Chunk, is_sound_chunk}
use Rattle.vyrd_every.proofs.Prelude.{Memory, with_cell, Situation, holds, Represents, changed_cell}
use Rattle.vyrd_every.proofs.Prelude.{other_cell, chunk_of, same_chunk, with_cached, with_stored}
use Rattle.vyrd_every.proofs.Prelude.{with_state, Locals, Access, Rely, cache}
use Rattle.vyrd_cache.specs.Cells.{lock_of}
use Rattle.vyrd_cache.specs.Contents.{shown}
use Rattle.vyrd_cache.specs.Laws.Alone.Changes.{Leaves, changed_chunk, kept_chunk}
use Rattle.vyrd_cache.specs.Laws.Alone.{free_lock}

-- the words of a chunk whose lock is held
pub chunk_access : (h : Header) (s : Situation) (n cell : ℕ) → n < h.size → holds s (lock_of h n)
    ≡ true → 5 * n ≤ cell → cell < 5 * n + 5
    → Access (cache h) s cell
chunk_access h s n cell low held from to = grind (arith, held, lock_of)

-- they stay as they are
pub chunk_stays : (h : Header) (s : Situation) (k : Locals) (before now : Memory) (n : ℕ)
    → n < h.size → holds s (lock_of h n) ≡ true
    → Rely (cache h) s k before now → chunk_of now n ≡ chunk_of before n
chunk_stays h s k before now n low held rely = grind (arith, held, same_chunk, chunk_access)

-- the memory after three stores
abbrev pub thrice : Memory → ℕ → ℕ → ℕ → ℕ → ℕ → ℕ → Memory
thrice memory a x b y s z = with_cell (with_cell (with_cell memory a x) b y) s z

thrice-state : (memory : Memory) (a x b y s z : ℕ) → thrice memory a x b y s z s ≡ z
thrice-state memory a x b y s z = changed_cell (with_cell (with_cell memory a x) b y) s z

thrice-high : (memory : Memory) (a x b y s z : ℕ) → b ≢ s → thrice memory a x b y s z b ≡ y
thrice-high memory a x b y s z other = search (other_cell, changed_cell, arith)

thrice-low : (memory : Memory) (a x b y s z : ℕ) → a ≢ s → a ≢ b → thrice memory a x b y s z a ≡ x
thrice-low memory a x b y s z other lower = grind (arith, lower, other_cell, changed_cell)

pub thrice-other : (memory : Memory) (a x b y s z cell : ℕ) → cell ≢ s → cell ≢ b → cell ≢ a
    → thrice memory a x b y s z cell ≡ memory cell
thrice-other memory a x b y s z cell other upper lower = grind (arith, lower, other_cell)

-- the chunk after its cached pair and its state were stored, and after its stored pair and its
-- state were
pub after_cached : (memory : Memory) (n z x y : ℕ)
    → chunk_of (thrice memory (5 * n + 1) x (5 * n + 2) y (5 * n) z) n ≡ with_cached z x y
    (chunk_of memory n)
after_cached memory n z x y =
    grind (arith, same_chunk, thrice-state, thrice-low, thrice-high, thrice-other)

pub after_stored : (memory : Memory) (n z x y : ℕ)
    → chunk_of (thrice memory (5 * n + 3) x (5 * n + 4) y (5 * n) z) n ≡ with_stored z x y
    (chunk_of memory n)
after_stored memory n z x y =
    grind (arith, same_chunk, thrice-state, thrice-other, thrice-low, thrice-high)

pub after_state : (memory : Memory) (n z : ℕ) → chunk_of (with_cell memory (5 * n) z) n
    ≡ with_state z (chunk_of memory n)
after_state memory n z = grind (arith, same_chunk, changed_cell, other_cell)

-- the memory represents a state where its chunk is known
pub kept : (h : Header) (old new : Memory) (state : Amounts) (n : ℕ) (chunk : Chunk) → h.subject
    ≡ Cache → Represents h old state → n < h.size
    → Leaves old new n (lock_of h n) → new (lock_of h n) ≡ old (lock_of h n) → chunk_of new n
    ≡ chunk → is_sound_chunk chunk ≡ true
    → shown chunk ≡ shown (chunk_of old n) → Represents h new state
kept h old new state n chunk is s low leaves free e sound same = kept_chunk h _ _ _ n is s low
    leaves (free ∙ free_lock h _ _ n is s low) (ap is_sound_chunk e ∙ sound) (ap shown e ∙ same)

pub changed : (h : Header) (old new : Memory) (state : Amounts) (n : ℕ) (chunk : Chunk) → h.subject
    ≡ Cache → Represents h old state → n < h.size
    → Leaves old new n (lock_of h n) → new (lock_of h n) ≡ old (lock_of h n) → chunk_of new n
    ≡ chunk → is_sound_chunk chunk ≡ true
    → Represents h new (with_amount state n (shown chunk))
changed h old new state n chunk is s low leaves free e sound =
    subst (λ d. Represents h new (with_amount state n (shown d))) e
    (changed_chunk h old new state n is s low leaves (free ∙ free_lock h old state n is s low)
    (ap is_sound_chunk e ∙ sound))
