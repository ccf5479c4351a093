-- Proofs of laws that an impl in src/ names: no contract says what is defined here.
-- The cells of a memory after an operation of a cache, and its chunk.
use Rattle.std.proofs.Common.{◌≡◌, ℕ, ◌+◌, ◌*◌, ◌<◌, ◌∙◌, arith}
use Rattle.std.specs.Prelude.{◌≢◌}
use Rattle.vyrd_base.specs.Cache.{Chunk}
use Rattle.vyrd_memory.specs.Alone.{Memory, with_cell}
use Rattle.vyrd_memory.proofs.Memories.{changed_cell, other_cell}
use Rattle.vyrd_cache.specs.Contents.{chunk_of}
use Rattle.vyrd_cache.specs.Laws.Alone.Changes.{same_chunk, Leaves}

-- the memory with the lock held
abbrev pub held : ℕ → ℕ → Memory → Memory
held c lock memory = with_cell memory lock (c + 1)

-- the memory after a pair and a state were stored with the lock held, which is free again
abbrev pub stored : ℕ → ℕ → Memory → ℕ → ℕ → ℕ → ℕ → ℕ → ℕ → Memory
stored c lock memory a x b y s z =
    with_cell (with_cell (with_cell (with_cell (held c lock memory) a x) b y) s z) lock 0

-- the memory after a state was stored with the lock held, which is free again
abbrev pub only_state : ℕ → ℕ → Memory → ℕ → ℕ → Memory
only_state c lock memory s z = with_cell (with_cell (held c lock memory) s z) lock 0

-- the memory after the lock was taken and given back
abbrev pub untouched : ℕ → ℕ → Memory → Memory
untouched c lock memory = with_cell (held c lock memory) lock 0

-- a load with the lock held
pub held_load : (c lock : ℕ) (memory : Memory) (cell : ℕ) → cell ≢ lock
    → held c lock memory cell ≡ memory cell
held_load c lock memory cell apart = other_cell memory lock (c + 1) cell apart

-- what the cells have after a pair and a state were stored
pub stored-lock : (c lock : ℕ) (memory : Memory) (a x b y s z : ℕ)
    → stored c lock memory a x b y s z lock ≡ 0
stored-lock c lock memory a x b y s z =
    changed_cell (with_cell (with_cell (with_cell (held c lock memory) a x) b y) s z) lock 0

pub stored-state : (c lock : ℕ) (memory : Memory) (a x b y s z : ℕ) → s ≢ lock
    → stored c lock memory a x b y s z s ≡ z
stored-state c lock memory a x b y s z apart =
    other_cell (with_cell (with_cell (with_cell (held c lock memory) a x) b y) s z) lock 0 s apart
    ∙ changed_cell (with_cell (with_cell (held c lock memory) a x) b y) s z

pub stored-high : (c lock : ℕ) (memory : Memory) (a x b y s z : ℕ) → b ≢ lock → b ≢ s
    → stored c lock memory a x b y s z b ≡ y
stored-high c lock memory a x b y s z apart other =
    other_cell (with_cell (with_cell (with_cell (held c lock memory) a x) b y) s z) lock 0 b apart
    ∙ other_cell (with_cell (with_cell (held c lock memory) a x) b y) s z b other
    ∙ changed_cell (with_cell (held c lock memory) a x) b y

pub stored-low : (c lock : ℕ) (memory : Memory) (a x b y s z : ℕ) → a ≢ lock → a ≢ s → a ≢ b
    → stored c lock memory a x b y s z a ≡ x
stored-low c lock memory a x b y s z apart other lower =
    other_cell (with_cell (with_cell (with_cell (held c lock memory) a x) b y) s z) lock 0 a apart
    ∙ other_cell (with_cell (with_cell (held c lock memory) a x) b y) s z a other
    ∙ other_cell (with_cell (held c lock memory) a x) b y a lower
    ∙ changed_cell (held c lock memory) a x

pub stored-other : (c lock : ℕ) (memory : Memory) (a x b y s z cell : ℕ) → cell ≢ lock → cell ≢ s
    → cell ≢ b → cell ≢ a
    → stored c lock memory a x b y s z cell ≡ memory cell
stored-other c lock memory a x b y s z cell apart other upper lower =
    other_cell (with_cell (with_cell (with_cell (held c lock memory) a x) b y) s z) lock 0 cell
    apart
    ∙ other_cell (with_cell (with_cell (held c lock memory) a x) b y) s z cell other
    ∙ other_cell (with_cell (held c lock memory) a x) b y cell upper
    ∙ other_cell (held c lock memory) a x cell lower
    ∙ held_load c lock memory cell apart

-- the chunk after its cached pair and its state were stored
abbrev pub with_cached : ℕ → ℕ → ℕ → Chunk → Chunk
with_cached state low high chunk = record {
  state = state;
  cached_lo = low;
  cached_hi = high;
  stored_lo = chunk.stored_lo;
  stored_hi = chunk.stored_hi;
}

-- and after its stored pair and its state were
abbrev pub with_stored : ℕ → ℕ → ℕ → Chunk → Chunk
with_stored state low high chunk = record {
  state = state;
  cached_lo = chunk.cached_lo;
  cached_hi = chunk.cached_hi;
  stored_lo = low;
  stored_hi = high;
}

abbrev pub with_state : ℕ → Chunk → Chunk
with_state state chunk = record chunk { state = state }

pub after_cached : (size c k : ℕ) (memory : Memory) (state low high : ℕ) → k < size
    → chunk_of (stored c (5 * size + k) memory (5 * k + 1) low (5 * k + 2) high (5 * k) state) k
    ≡ with_cached state low high (chunk_of memory k)
after_cached size c k memory state low high few =
    same_chunk
    (chunk_of (stored c (5 * size + k) memory (5 * k + 1) low (5 * k + 2) high (5 * k) state) k)
    (with_cached state low high (chunk_of memory k))
    (stored-state c (5 * size + k) memory (5 * k + 1) low (5 * k + 2) high (5 * k) state
    (omega arith))
    (stored-low c (5 * size + k) memory (5 * k + 1) low (5 * k + 2) high (5 * k) state (omega arith)
    (omega arith) (omega arith))
    (stored-high c (5 * size + k) memory (5 * k + 1) low (5 * k + 2) high (5 * k) state
    (omega arith) (omega arith))
    (stored-other c (5 * size + k) memory (5 * k + 1) low (5 * k + 2) high (5 * k) state (5 * k + 3)
    (omega arith) (omega arith) (omega arith) (omega arith))
    (stored-other c (5 * size + k) memory (5 * k + 1) low (5 * k + 2) high (5 * k) state (5 * k + 4)
    (omega arith) (omega arith) (omega arith) (omega arith))

pub leaves_cached : (size c k : ℕ) (memory : Memory) (state low high : ℕ)
    → Leaves memory (stored c (5 * size + k) memory (5 * k + 1) low (5 * k + 2) high (5 * k) state)
    k (5 * size + k)
leaves_cached size c k memory state low high = λ cell e0 e1 e2 e3 e4 lock.
    stored-other c (5 * size + k) memory (5 * k + 1) low (5 * k + 2) high (5 * k) state cell lock e0
    e2 e1

pub after_stored : (size c k : ℕ) (memory : Memory) (state low high : ℕ) → k < size
    → chunk_of (stored c (5 * size + k) memory (5 * k + 3) low (5 * k + 4) high (5 * k) state) k
    ≡ with_stored state low high (chunk_of memory k)
after_stored size c k memory state low high few =
    same_chunk
    (chunk_of (stored c (5 * size + k) memory (5 * k + 3) low (5 * k + 4) high (5 * k) state) k)
    (with_stored state low high (chunk_of memory k))
    (stored-state c (5 * size + k) memory (5 * k + 3) low (5 * k + 4) high (5 * k) state
    (omega arith))
    (stored-other c (5 * size + k) memory (5 * k + 3) low (5 * k + 4) high (5 * k) state (5 * k + 1)
    (omega arith) (omega arith) (omega arith) (omega arith))
    (stored-other c (5 * size + k) memory (5 * k + 3) low (5 * k + 4) high (5 * k) state (5 * k + 2)
    (omega arith) (omega arith) (omega arith) (omega arith))
    (stored-low c (5 * size + k) memory (5 * k + 3) low (5 * k + 4) high (5 * k) state (omega arith)
    (omega arith) (omega arith))
    (stored-high c (5 * size + k) memory (5 * k + 3) low (5 * k + 4) high (5 * k) state
    (omega arith) (omega arith))

pub leaves_stored : (size c k : ℕ) (memory : Memory) (state low high : ℕ)
    → Leaves memory (stored c (5 * size + k) memory (5 * k + 3) low (5 * k + 4) high (5 * k) state)
    k (5 * size + k)
leaves_stored size c k memory state low high = λ cell e0 e1 e2 e3 e4 lock.
    stored-other c (5 * size + k) memory (5 * k + 3) low (5 * k + 4) high (5 * k) state cell lock e0
    e4 e3

-- the cells after a state alone was stored
pub only_state-other : (c lock : ℕ) (memory : Memory) (s z cell : ℕ) → cell ≢ lock → cell ≢ s
    → only_state c lock memory s z cell ≡ memory cell
only_state-other c lock memory s z cell apart other =
    other_cell (with_cell (held c lock memory) s z) lock 0 cell apart
    ∙ other_cell (held c lock memory) s z cell other
    ∙ held_load c lock memory cell apart

pub after_state : (size c k : ℕ) (memory : Memory) (state : ℕ) → k < size
    → chunk_of (only_state c (5 * size + k) memory (5 * k) state) k
    ≡ with_state state (chunk_of memory k)
after_state size c k memory state few =
    same_chunk (chunk_of (only_state c (5 * size + k) memory (5 * k) state) k)
    (with_state state (chunk_of memory k))
    (other_cell (with_cell (held c (5 * size + k) memory) (5 * k) state) (5 * size + k) 0 (5 * k)
    (omega arith)
    ∙ changed_cell (held c (5 * size + k) memory) (5 * k) state)
    (only_state-other c (5 * size + k) memory (5 * k) state (5 * k + 1) (omega arith) (omega arith))
    (only_state-other c (5 * size + k) memory (5 * k) state (5 * k + 2) (omega arith) (omega arith))
    (only_state-other c (5 * size + k) memory (5 * k) state (5 * k + 3) (omega arith) (omega arith))
    (only_state-other c (5 * size + k) memory (5 * k) state (5 * k + 4) (omega arith) (omega arith))

-- and after none was
pub untouched-other : (c lock : ℕ) (memory : Memory) (cell : ℕ) → cell ≢ lock
    → untouched c lock memory cell ≡ memory cell
untouched-other c lock memory cell apart =
    other_cell (held c lock memory) lock 0 cell apart ∙ held_load c lock memory cell apart

pub after_none : (size c k : ℕ) (memory : Memory) → k < size
    → chunk_of (untouched c (5 * size + k) memory) k ≡ chunk_of memory k
after_none size c k memory few =
    same_chunk (chunk_of (untouched c (5 * size + k) memory) k) (chunk_of memory k)
    (untouched-other c (5 * size + k) memory (5 * k) (omega arith))
    (untouched-other c (5 * size + k) memory (5 * k + 1) (omega arith))
    (untouched-other c (5 * size + k) memory (5 * k + 2) (omega arith))
    (untouched-other c (5 * size + k) memory (5 * k + 3) (omega arith))
    (untouched-other c (5 * size + k) memory (5 * k + 4) (omega arith))
