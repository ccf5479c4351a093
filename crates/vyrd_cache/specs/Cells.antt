-- Where the words and the locks of a cache are. A chunk has five words: its state, which is 0
-- absent, 1 clean or 2 dirty, its pair in the cache, and its pair in the store. A chunk has a lock.
use Rattle.std.specs.Prelude.{ℕ, ◌+◌, ◌*◌}
use Rattle.vyrd_base.specs.declared.header.Header.{Header}
use Rattle.vyrd_memory.specs.declared.act.Act.TheVariants.{Take}
use Rattle.vyrd_memory.specs.Scripts.{Script, perform}

-- the cell of a chunk's state
abbrev pub state_cell : ℕ → ℕ
state_cell chunk = 5 * chunk

-- the cells of its pair in the cache: the lower half and the upper half
abbrev pub cached_low : ℕ → ℕ
cached_low chunk = 5 * chunk + 1

abbrev pub cached_high : ℕ → ℕ
cached_high chunk = 5 * chunk + 2

-- the cells of its pair in the store
abbrev pub stored_low : ℕ → ℕ
stored_low chunk = 5 * chunk + 3

abbrev pub stored_high : ℕ → ℕ
stored_high chunk = 5 * chunk + 4

-- the lock of a chunk: the locks are the cells after the words of all chunks
abbrev pub lock_of : Header → ℕ → ℕ
lock_of h chunk = 5 * h.size + chunk

-- lock a chunk, and go on
abbrev pub lock : Header → ℕ → Script → Script
lock h chunk later = perform (Take (lock_of h chunk)) later
