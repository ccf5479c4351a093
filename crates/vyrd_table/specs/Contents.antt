-- What a table is seen as.
use Rattle.std.specs.Prelude.{ℕ, List}
use Rattle.vyrd_table.specs.Places.{IsFoundAt}
use Rattle.vyrd_table.specs.declared.slot.Slot.{Slot}

-- The keys that have a value that isn't nothing with their values, the keys rising; the steps that
-- were paid for growing and aren't used yet; and the places, of which only slots speak.
pub record Contents (V : Type 0) : Type 0 where
  pub entries : List (ℕ × V)
  pub saved : ℕ
  pub places : List (ℕ × V)
  pub shift : ℕ

-- the slot says where the key's value is to be put
unfoldable pub IsSlotOf : {V : Type 0} → V → Contents V → ℕ → Slot V → Type 0
IsSlotOf nothing table key slot = IsFoundAt nothing table.shift table.places key slot.place
