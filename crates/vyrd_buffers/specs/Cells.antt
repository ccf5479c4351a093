-- Where the words and the locks of string buffers are. A buffer has eight words: the count of its
-- characters, and room for 7 characters. A buffer has a lock.
use Rattle.std.specs.Prelude.{ℕ, ◌+◌, ◌*◌, ◌==◌, if◌then◌else◌}
use Rattle.vyrd_base.specs.declared.header.Header.{Header}
use Rattle.vyrd_memory.specs.declared.act.Act.TheVariants.{Take, Give}
use Rattle.vyrd_memory.specs.Scripts.{Script, perform}

-- the cell of a buffer's count
abbrev pub count_cell : ℕ → ℕ
count_cell buffer = 8 * buffer

-- the cell of its character i, from 0 to 6
abbrev pub character_cell : ℕ → ℕ → ℕ
character_cell buffer i = 8 * buffer + (1 + i)

-- the lock of a buffer: the locks are the cells after the words of all buffers
abbrev pub lock_of : Header → ℕ → ℕ
lock_of h buffer = 8 * h.size + buffer

-- lock a buffer, and go on
abbrev pub lock : Header → ℕ → Script → Script
lock h buffer later = perform (Take (lock_of h buffer)) later

-- unlock it
abbrev pub unlock : Header → ℕ → Script → Script
unlock h buffer later = perform (Give (lock_of h buffer)) later

-- lock the second of two buffers, if it is another one
abbrev pub lock_other : Header → ℕ → ℕ → Script → Script
lock_other h first second later = if first == second then later else lock h second later

-- unlock the second of two buffers, if it is another one
abbrev pub unlock_other : Header → ℕ → ℕ → Script → Script
unlock_other h first second later = if first == second then later else unlock h second later
