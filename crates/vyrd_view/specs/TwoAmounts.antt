-- The two amounts of a key: what the words show, and what the specification has.
use Rattle.std.specs.Prelude.{◌≡◌, ℕ, Bool, ◌-◌, ◌^◌, ◌<◌, ◌==◌, ◌&&◌, not, if◌then◌else◌}
use Rattle.vyrd_view.specs.declared.both.Both.{Both}

-- no amount on either side
abbrev pub neither : Both
neither = record { shown = 0; specified = 0 }

-- whether a key has none
abbrev pub is_neither : Both → Bool
is_neither both = both.shown == 0 && both.specified == 0

-- whether the amounts differ
abbrev pub is_apart : Both → Bool
is_apart both = not (both.shown == both.specified)

-- 1 if they differ
abbrev pub apart_once : Both → ℕ
apart_once both = if is_apart both then 1 else 0

-- a number is this count, unless it is the greatest number of 64 bits, which says nothing
abbrev pub IsCount : ℕ → ℕ → Type 0
IsCount number count = number < 2 ^ 64 - 1 → number ≡ count
