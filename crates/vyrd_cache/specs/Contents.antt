-- What a memory of a cache holds: its chunks, and what they show.
use Rattle.std.specs.Prelude.{ℕ, ◌+◌, ◌*◌, ◌==◌, if◌then◌else◌}
use Rattle.vyrd_base.specs.Cache.{Chunk, cached_pair, stored_pair}
use Rattle.vyrd_memory.specs.Alone.{Memory}

-- a chunk of a memory
abbrev pub chunk_of : Memory → ℕ → Chunk
chunk_of memory k = record {
  state = memory (5 * k);
  cached_lo = memory (5 * k + 1);
  cached_hi = memory (5 * k + 2);
  stored_lo = memory (5 * k + 3);
  stored_hi = memory (5 * k + 4);
}

-- the pair that a chunk shows
abbrev pub shown : Chunk → ℕ
shown c = if c.state == 0 then stored_pair c else cached_pair c
