-- What the two sides have of each key.
use Rattle.std.specs.Prelude.{◌≡◌, ℕ, List, map, count_by}
use Rattle.vyrd_base.specs.Amounts.{Amounts, collected}
use Rattle.vyrd_table.specs.Contents.{IsSlotOf}
use Rattle.vyrd_table.specs.Entries.{IsEntries, value_of}
use Rattle.vyrd_table.specs.declared.slot.Slot.{Slot}
use Rattle.vyrd_view.specs.declared.both.Both.{Both}
use Rattle.vyrd_view.specs.declared.sides.Sides.{Sides}
use Rattle.vyrd_view.specs.TwoAmounts.{neither, is_neither, is_apart, IsCount}

-- what the words show of a key
unfoldable pub shown_at : Sides → ℕ → ℕ
shown_at sides q = (value_of neither sides.table.entries q).shown

-- what the specification has of each key
abbrev pub specified_pairs : List (ℕ × Both) → List (ℕ × ℕ)
specified_pairs entries = map (λ entry. (entry.0, entry.1.specified)) entries

-- the specification's amounts
unfoldable pub specified_of : Sides → Amounts
specified_of sides = collected (specified_pairs sides.table.entries)

-- how many keys have amounts that differ
abbrev pub apart_in : List (ℕ × Both) → ℕ
apart_in entries = count_by (λ entry. is_apart entry.1) entries

-- the keys rise, each has an amount on a side, and what is counted is right
pub record AreSettled (sides : Sides) : Type 0 where
  pub formed : IsEntries is_neither sides.table.entries
  pub counted : IsCount sides.apart (apart_in sides.table.entries)

unfoldable pub IsSettled : Sides → Type 0
IsSettled sides = AreSettled sides

-- a slot has a key's amounts, and says where they are
pub record IsAt (sides : Sides) (key : ℕ) (slot : Slot Both) : Type 0 where
  pub amounts : slot.value ≡ value_of neither sides.table.entries key
  pub place : IsSlotOf neither sides.table key slot
