-- Callers whose machines aren't done. A round over all callers may leave the others out, since a
-- turn
-- of a machine that is done has no event.
use Rattle.std.specs.Prelude.{◌≡◌, ℕ, Bool, true, false, not, List, length, slice_get}
use Rattle.std.specs.Prelude.{Option, Some, None}
use Rattle.std.specs.List.{filter}
use Rattle.vyrd_base.specs.Places.{numbers_below}
use Rattle.vyrd_memory.specs.Scripts.{Script, next_act}
use Rattle.vyrd_memory.specs.Turns.{is_done}

-- whether there is a machine and it isn't done
abbrev pub is_unfinished : {M : Type 0} → (M → Script) → Option M → Bool
is_unfinished script None = false
is_unfinished script (Some m) = not (is_done (next_act (script m)))

-- these are callers in their order, and the machine of each caller that is left out is done
pub record LeavesOut {M : Type 0} (script : M → Script) (machines : List M)
    (callers : List ℕ) : Type 0 where
  pub keep : ℕ → Bool
  pub kept : callers ≡ filter keep (numbers_below (length machines))
  pub done : (c : ℕ) (m : M) → keep c ≡ false → slice_get machines c ≡ Some m
      → is_done (next_act (script m)) ≡ true
