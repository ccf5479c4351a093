-- How many bytes of an input settle what it says as a workload. A line that says something has at
-- most 64 bytes and its line feed, and at most 200,000 operations and as many lines of turns are
-- taken in. So reading has ended before it comes to that many bytes.
use Rattle.std.specs.Prelude.{ℕ}

-- 32 MiB and one byte more
abbrev pub longest_input : ℕ
longest_input = 33554433
