-- How many bytes of an input settle what it says as a history. A line that says something has at
-- most 64 bytes and its line feed, and at most 4,000,000 lines are taken in. So reading has ended
-- before that many bytes.
use Rattle.std.specs.Prelude.{ℕ}

-- 256 MiB and one byte more
abbrev pub longest_history : ℕ
longest_history = 268435457
