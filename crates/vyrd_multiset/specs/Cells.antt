-- Where the words and the locks of a multiset are. There are as many buckets as the header's size,
-- of 4 slots each: the slots of bucket b are those from 4b on. A slot has two words. A bucket has a
-- lock.
use Rattle.std.specs.Prelude.{ℕ, ◌+◌, ◌*◌, ◌%◌, if◌then◌else◌, ◌==◌}
use Rattle.vyrd_base.specs.declared.header.Header.{Header}
use Rattle.vyrd_memory.specs.declared.act.Act.TheVariants.{Take, Give}
use Rattle.vyrd_memory.specs.Scripts.{Script, perform}

-- a value belongs to the bucket of its remainder by the size
abbrev pub bucket_of : Header → ℕ → ℕ
bucket_of h value = value % h.size

-- the first slot of a bucket
abbrev pub first_slot : ℕ → ℕ
first_slot bucket = 4 * bucket

-- the cell of a slot's state: 0 free, 1 reserved, 2 valid
abbrev pub state_cell : ℕ → ℕ
state_cell slot = 2 * slot

-- the cell of a slot's value
abbrev pub value_cell : ℕ → ℕ
value_cell slot = 2 * slot + 1

-- the lock of a bucket: the locks are the cells after the 8 words of each bucket
abbrev pub lock_of : Header → ℕ → ℕ
lock_of h bucket = 8 * h.size + bucket

-- lock a bucket, and go on
abbrev pub lock : Header → ℕ → Script → Script
lock h bucket later = perform (Take (lock_of h bucket)) later

-- unlock a bucket, and go on
abbrev pub unlock : Header → ℕ → Script → Script
unlock h bucket later = perform (Give (lock_of h bucket)) later

-- lock the second of two buckets, if it is another one
abbrev pub lock_other : Header → ℕ → ℕ → Script → Script
lock_other h first second later = if first == second then later else lock h second later

-- unlock the second of two buckets, if it is another one
abbrev pub unlock_other : Header → ℕ → ℕ → Script → Script
unlock_other h first second later = if first == second then later else unlock h second later
