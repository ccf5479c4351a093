-- Values by key: the keys rise and no value is nothing. So a key that isn't there has the value
-- nothing, and two lists of entries are equal if each key has the same value in both. What nothing
-- is, the kind of value says, and which test it alone passes.
use Rattle.std.specs.Prelude.{◌≡◌, ℕ, Bool, false, ◌==◌, not, T, List, filter, unwrap_or}
use Rattle.std.specs.Prelude.{if◌then◌else◌}
use Rattle.std.specs.Ordering.{nat_cmp}
use Rattle.std.specs.FinMap.{find, put, is_sorted}
use Rattle.std.specs.List.{AllByRecursion}

-- keys with their values
abbrev pub Entries : Type 0 → Type 0
Entries V = List (ℕ × V)

-- the keys rise, and no value is nothing
pub record IsEntries {V : Type 0} (is_nothing : V → Bool) (entries : List (ℕ × V)) : Type 0 where
  pub rising : T (is_sorted nat_cmp entries)
  pub some : AllByRecursion (λ entry. is_nothing entry.1 ≡ false) entries

module _ {V : Type 0} where
  -- the value of a key
  abbrev pub value_of : V → List (ℕ × V) → ℕ → V
  value_of nothing entries key = unwrap_or (find nat_cmp key entries) nothing

  -- the entries with this value for the key; nothing takes the key out
  abbrev pub with_value : (V → Bool) → List (ℕ × V) → ℕ → V → List (ℕ × V)
  with_value is_nothing entries key value =
      if is_nothing value
      then filter (λ entry. not (entry.0 == key)) entries
      else put nat_cmp key value entries
