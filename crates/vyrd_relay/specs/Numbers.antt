-- Events that are held by their numbers.
use Rattle.std.specs.Prelude.{◌≡◌, ℕ, ◌-◌, ◌<◌, ◌^◌, List, Bool, ◌||◌, nat_lt, Option, Some, None}
use Rattle.std.specs.Prelude.{is_some, slice_index_or, if◌then◌else◌}
use Rattle.std.specs.Ordering.{nat_cmp}
use Rattle.std.specs.Map.{lookup}
use Rattle.std.specs.BTreeMap.{is_at}
use Rattle.vyrd_base.specs.declared.history.Stamped.{Stamped}

-- The number of the event that is handed out next, and the events that are held: `near` has a place
-- for each number from `next` on, as far as it goes, and `far` has those whose numbers were further
-- off when they came.
pub record ReorderKept : Type 0 where
  pub next : ℕ
  pub near : List (Option Stamped)
  pub far : List (ℕ × Stamped)

-- the first of two, otherwise the second
abbrev pub or_else : Option Stamped → Option Stamped → Option Stamped
or_else None second = second
or_else (Some item) second = Some item

-- The event that is held with a number. Those before `next` were handed out.
abbrev pub held : ReorderKept → ℕ → Option Stamped
held kept number =
    if nat_lt number kept.next then None
    else or_else (slice_index_or kept.near (number - kept.next) None)
    (lookup (is_at (nat_cmp number)) kept.far)

-- the event with this number is held or was handed out
abbrev pub has : ReorderKept → ℕ → Bool
has kept number = nat_lt number kept.next || is_some (held kept number)

-- Each event is held with its own number, which is below 2^62.
abbrev pub AreNumbered : ReorderKept → Type 0
AreNumbered kept =
    (n : ℕ) (item : Stamped) → held kept n ≡ Some item → (item.number ≡ n) × (n < 2 ^ 62)

-- No far event is held whose number was handed out.
abbrev pub AreToCome : ReorderKept → Type 0
AreToCome kept = (n : ℕ) → n < kept.next → lookup (is_at (nat_cmp n)) kept.far ≡ None
