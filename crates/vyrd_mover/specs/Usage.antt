-- What is kept of a plain cell while a history is gone through: who has used it, whether it was
-- written, and which locks may guard it. Locks are numbered from 0 here, in the order of their
-- cells.
use Rattle.std.specs.Prelude.{◌≡◌, ℕ, ◌+◌, ◌-◌, ◌/◌, ◌<◌, ◌≤◌, Bool, true, false, not, ◌&&◌}
use Rattle.std.specs.Prelude.{◌||◌, ◌==◌, List, []}
use Rattle.std.specs.Prelude.{length, slice_index_or, slice_set, nat_lt, if◌then◌else◌}
use Rattle.vyrd_base.specs.declared.history.Did.{Did}
use Rattle.vyrd_base.specs.declared.history.Did.TheVariants.{Read, Wrote, Took, Gave, Marked}
use Rattle.vyrd_base.specs.declared.history.Stamped.{Stamped}
use Rattle.vyrd_base.specs.Places.{newest_first}
use Rattle.vyrd_base.specs.Histories.{Cells, value_in}
use Rattle.vyrd_mover.specs.declared.usage.Users.{Users}
use Rattle.vyrd_mover.specs.declared.usage.Users.TheVariants.{Nobody, One, Many}
use Rattle.vyrd_mover.specs.RaceFree.{is_used_by_alone, is_unwritten, is_guarded_by}
use Rattle.vyrd_mover.specs.LockSets.{words_for, has_lock, with_lock, without_lock, in_both}

-- the users of a cell, whether it was written, and the locks that each of its users held
pub record Use : Type 0 where
  pub users : Users
  pub written : Bool
  pub guards : List ℕ

-- whether a caller may be the only user
abbrev pub may_be_alone : Users → ℕ → Bool
may_be_alone Nobody caller = true
may_be_alone (One user) caller = user == caller
may_be_alone Many caller = false

-- whether somebody has used the cell
abbrev pub is_used : Users → Bool
is_used Nobody = false
is_used (One user) = true
is_used Many = true

-- whether several callers have used the cell
abbrev pub is_shared : Users → Bool
is_shared Nobody = false
is_shared (One user) = false
is_shared Many = true

-- the users with one more
abbrev pub joined : Users → ℕ → Users
joined Nobody caller = One caller
joined (One user) caller = if user == caller then One user else Many
joined Many caller = Many

-- what is kept of a cell after one more use, by a caller who holds these locks
abbrev pub used_by : List ℕ → ℕ → Bool → Use → Use
used_by held caller is_write kept = record {
  users = joined kept.users caller;
  written = kept.written || is_write;
  guards = if is_used kept.users then in_both kept.guards held else held;
}

-- nothing is known of a cell that wasn't used
abbrev pub unused : Use
unused = record { users = Nobody; written = false; guards = [] }

-- the locks that each caller holds, and what is kept of each plain cell
pub record UsageKept : Type 0 where
  pub held : List (List ℕ)
  pub cells : List Use

-- the locks that a caller holds
abbrev pub held_by : UsageKept → ℕ → List ℕ
held_by all caller = slice_index_or all.held caller []

-- the same after one more use of a cell
abbrev pub with_use : UsageKept → ℕ → ℕ → Bool → UsageKept
with_use all cell caller is_write = record {
  held = all.held;
  cells = slice_set all.cells cell
      (used_by (held_by all caller) caller is_write (slice_index_or all.cells cell unused));
}

-- the same where a caller holds other locks
abbrev pub with_held : UsageKept → ℕ → List ℕ → UsageKept
with_held all caller locks = record { held = slice_set all.held caller locks; cells = all.cells }

-- the same after an event
abbrev pub kept_after : UsageKept → ℕ → Did → UsageKept
kept_after all caller (Read cell value) = with_use all cell caller false
kept_after all caller (Wrote cell value) = with_use all cell caller true
kept_after all caller (Took lock) =
    with_held all caller (with_lock (held_by all caller) (lock - length all.cells))
kept_after all caller (Gave lock) =
    with_held all caller (without_lock (held_by all caller) (lock - length all.cells))
kept_after all caller (Marked kind) = all

-- whether the event's cell is among these plain cells or among these cells
abbrev pub IsInRange : ℕ → ℕ → Did → Type 0
IsInRange plain all (Read cell value) = cell < plain
IsInRange plain all (Wrote cell value) = cell < plain
IsInRange plain all (Took lock) = lock < all
IsInRange plain all (Gave lock) = lock < all
IsInRange plain all (Marked kind) = Unit {0}

-- whether the event's lock stands behind so many plain cells, and in a row of so many words
abbrev pub IsBehind : ℕ → Did → Type 0
IsBehind plain (Read cell value) = Unit {0}
IsBehind plain (Wrote cell value) = Unit {0}
IsBehind plain (Took lock) = plain ≤ lock
IsBehind plain (Gave lock) = plain ≤ lock
IsBehind plain (Marked kind) = Unit {0}

abbrev pub HasPlaceIn : ℕ → ℕ → Did → Type 0
HasPlaceIn plain words (Read cell value) = Unit {0}
HasPlaceIn plain words (Wrote cell value) = Unit {0}
HasPlaceIn plain words (Took lock) = (lock - plain) / 64 < words
HasPlaceIn plain words (Gave lock) = (lock - plain) / 64 < words
HasPlaceIn plain words (Marked kind) = Unit {0}

-- what these events say of the cell
pub record IsUse (cells : Cells) (seen : List Stamped) (cell : ℕ) (kept : Use) : Type 0 where
  pub alone : (caller : ℕ) → is_used_by_alone seen cell caller ≡ may_be_alone kept.users caller
  pub user_below : (user : ℕ) → kept.users ≡ One user → user < cells.callers
  pub unwritten : is_unwritten seen cell ≡ not kept.written
  pub unseen : is_used kept.users ≡ false → (lock : ℕ) → is_guarded_by seen cell lock ≡ true
  pub guards : is_used kept.users ≡ true → (lock : ℕ) → has_lock kept.guards lock
      ≡ (nat_lt lock cells.locks && is_guarded_by seen cell (cells.plain + lock))

-- what these events say of a caller's locks
pub record HoldsSo (cells : Cells) (seen : List Stamped) (caller : ℕ) (held : List ℕ) : Type 0 where
  pub room : length held ≡ words_for cells.locks
  pub holds : (lock : ℕ) → has_lock held lock ≡ (nat_lt lock cells.locks
      && value_in (newest_first seen) (cells.plain + lock) == caller + 1)

-- what these events say of the locks and the plain cells
pub record HaveSeen (cells : Cells) (seen : List Stamped) (all : UsageKept) : Type 0 where
  pub all_held : length all.held ≡ cells.callers
  pub all_cells : length all.cells ≡ cells.plain
  pub held : (caller : ℕ) → caller < cells.callers → (d : List ℕ)
      → HoldsSo cells seen caller (slice_index_or all.held caller d)
  pub uses : (cell : ℕ) → cell < cells.plain → (d : Use)
      → IsUse cells seen cell (slice_index_or all.cells cell d)
