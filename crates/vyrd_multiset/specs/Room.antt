-- The free slots of a bucket, and whether there is room for a pair.
use Rattle.std.specs.Prelude.{ℕ, zero, suc, ◌+◌, ◌==◌, nat_le, Bool, ◌&&◌, if◌then◌else◌}
use Rattle.vyrd_base.specs.declared.header.Header.{Header}
use Rattle.vyrd_memory.specs.Alone.{Memory}
use Rattle.vyrd_multiset.specs.Cells.{bucket_of, first_slot, state_cell}

-- how many slots are free among this many from this one on
abbrev pub free_from : Memory → ℕ → ℕ → ℕ
free_from memory slot zero = 0
free_from memory slot (suc left) =
    (if memory (state_cell slot) == 0 then 1 else 0) + free_from memory (slot + 1) left

-- how many slots are free in the bucket of a value
abbrev pub free_slots_for : Header → Memory → ℕ → ℕ
free_slots_for h memory value = free_from memory (first_slot (bucket_of h value)) 4

-- whether two values find a slot each: two if both fall into one bucket, and otherwise one in each
abbrev pub has_room_for_both : Header → Memory → ℕ → ℕ → Bool
has_room_for_both h memory x y =
    if bucket_of h x == bucket_of h y then nat_le 2 (free_slots_for h memory x)
    else nat_le 1 (free_slots_for h memory x) && nat_le 1 (free_slots_for h memory y)
