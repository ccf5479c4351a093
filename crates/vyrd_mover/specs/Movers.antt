-- Lipton's movers (CACM 1975), and the cuts of a list of events. A take can be exchanged with what
-- another caller does next, a give with what another caller did just before, and an access of a
-- race-free cell with both. If a list has a cut, all its events can be brought together at the one
-- event where it is cut.
use Rattle.std.specs.Prelude.{ℕ, ◌+◌, Bool, true, false, ◌&&◌, ◌||◌, List, ◌∷◌, length, take, drop}
use Rattle.std.specs.Prelude.{Option, Some, None, if◌then◌else◌}
use Rattle.std.specs.List.{list_all, list_any}
use Rattle.vyrd_base.specs.declared.history.Did.{Did}
use Rattle.vyrd_base.specs.declared.history.Did.TheVariants.{Read, Wrote, Took, Gave, Marked}
use Rattle.vyrd_base.specs.declared.history.Stamped.{Stamped}
use Rattle.vyrd_base.specs.Places.{Place, places, newest_first, first_answer, numbers_below}

-- whether this is a read or a write of a cell that is race-free by the given test
abbrev pub is_free_access : (ℕ → Bool) → Did → Bool
is_free_access free (Read cell value) = free cell
is_free_access free (Wrote cell value) = free cell
is_free_access free (Took lock) = false
is_free_access free (Gave lock) = false
is_free_access free (Marked kind) = false

-- whether this is a take
abbrev pub is_take : Did → Bool
is_take (Took lock) = true
is_take (Read cell value) = false
is_take (Wrote cell value) = false
is_take (Gave lock) = false
is_take (Marked kind) = false

-- whether this is a give
abbrev pub is_give : Did → Bool
is_give (Gave lock) = true
is_give (Read cell value) = false
is_give (Wrote cell value) = false
is_give (Took lock) = false
is_give (Marked kind) = false

-- a take or an access of a race-free cell
abbrev pub is_right_mover : (ℕ → Bool) → Stamped → Bool
is_right_mover free e = is_take e.did || is_free_access free e.did

-- a give or an access of a race-free cell
abbrev pub is_left_mover : (ℕ → Bool) → Stamped → Bool
is_left_mover free e = is_give e.did || is_free_access free e.did

-- whether the list has a cut at place i: right movers alone stand before this place, and left
-- movers alone after it
abbrev pub is_cut : (ℕ → Bool) → List Stamped → ℕ → Bool
is_cut free events i = list_all (is_right_mover free) (take i events)
    && list_all (is_left_mover free) (drop (i + 1) events)

-- whether the list has a cut at one of its places, or at its end
unfoldable pub has_cut : (ℕ → Bool) → List Stamped → Bool
has_cut free events = list_any (is_cut free events) (numbers_below (length events + 1))

-- the event at a place, if the list up to and with it has no cut
abbrev pub uncut_at : (ℕ → Bool) → Place Stamped → Option Stamped
uncut_at free place =
    if has_cut free (newest_first (place.here ∷ place.earlier)) then None else Some place.here

-- the last event of the shortest prefix that has no cut
abbrev pub break_of : (ℕ → Bool) → List Stamped → Option Stamped
break_of free events = first_answer (uncut_at free) (places events)
