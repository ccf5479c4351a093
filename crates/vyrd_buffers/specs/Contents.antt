-- What a memory of string buffers holds: its buffers, and what they show.
use Rattle.std.specs.Prelude.{ℕ, ◌+◌, ◌*◌}
use Rattle.vyrd_base.specs.Buffers.{Buffer, text_of}
use Rattle.vyrd_memory.specs.Alone.{Memory}

-- a buffer of a memory
abbrev pub buffer_of : Memory → ℕ → Buffer
buffer_of memory b = record { count = memory (8 * b); character = λ i. memory (8 * b + (1 + i)) }

-- the text that a buffer shows
abbrev pub shown : Buffer → ℕ
shown buffer = text_of buffer.character buffer.count
