-- How many bytes of an input settle what it says as a batch. The logs lie within the first 64 MiB,
-- and the last line has 4 bytes. So a longer input is refused, and its first bytes, one more than
-- these, show where.
use Rattle.std.specs.Prelude.{ℕ}

-- 64 MiB, the last line and one byte more
abbrev pub longest_batch_input : ℕ
longest_batch_input = 67108869
