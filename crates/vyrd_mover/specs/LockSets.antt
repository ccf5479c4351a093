-- Sets of locks as rows of bits: lock k is bit k % 64 of word k / 64.
use Rattle.std.specs.Prelude.{ℕ, ◌+◌, ◌*◌, ◌/◌, ◌%◌, ◌^◌, Bool, ◌==◌, List, length, map}
use Rattle.std.specs.Prelude.{slice_index, slice_set}
use Rattle.std.specs.Int.{bit_at, bit_not, w64}
use Rattle.std.specs.Int.Bits.{bit_and, bit_or}
use Rattle.std.specs.List.{range_with_len}

-- how many words a set has whose locks are below this number
abbrev pub words_for : ℕ → ℕ
words_for locks = (locks + 63) / 64

-- whether the lock is in the set
unfoldable pub has_lock : List ℕ → ℕ → Bool
has_lock words lock = bit_at (slice_index words (lock / 64)) (lock % 64) == 1

-- the number whose bit for this lock is 1, and no other
abbrev pub mask_of : ℕ → ℕ
mask_of lock = 1 * 2 ^ (lock % 64) % 2 ^ 64

-- the set with this lock
unfoldable pub with_lock : List ℕ → ℕ → List ℕ
with_lock words lock =
    slice_set words (lock / 64) (bit_or (slice_index words (lock / 64)) (mask_of lock))

-- the set without it
unfoldable pub without_lock : List ℕ → ℕ → List ℕ
without_lock words lock =
    slice_set words (lock / 64)
    (bit_and (slice_index words (lock / 64)) (bit_not w64 (mask_of lock)))

-- the locks of the first set that are in the second too
unfoldable pub in_both : List ℕ → List ℕ → List ℕ
in_both words others =
    map (λ place. bit_and (slice_index words place) (slice_index others place))
    (range_with_len 0 (length words))
