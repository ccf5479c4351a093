-- Amounts by key: the keys rise and no amount is 0, so a key that isn't there has the amount 0, and
-- two lists of amounts are equal if each key has the same amount in both.
use Rattle.std.specs.Prelude.{◌≢◌, ℕ, Bool, ◌+◌, ◌==◌, not, T, min, List, [], ◌∷◌, ◌++◌, map}
use Rattle.std.specs.Prelude.{filter}
use Rattle.std.specs.Prelude.{Option, Some, None, unwrap_or, if◌then◌else◌}
use Rattle.std.specs.Option.{option_map_or}
use Rattle.std.specs.Ordering.{nat_cmp}
use Rattle.std.specs.FinMap.{find, put, is_sorted}
use Rattle.std.specs.List.{AllByRecursion}

-- keys with their amounts
abbrev pub Amounts : Type 0
Amounts = List (ℕ × ℕ)

-- the keys rise, and no amount is 0
pub record IsAmounts (amounts : Amounts) : Type 0 where
  pub rising : T (is_sorted nat_cmp amounts)
  pub some : AllByRecursion (λ entry. entry.1 ≢ 0) amounts

-- the amount of a key
abbrev pub amount_of : Amounts → ℕ → ℕ
amount_of amounts key = unwrap_or (find nat_cmp key amounts) 0

-- whether a key is there: its amount isn't 0
abbrev pub is_present : Amounts → ℕ → Bool
is_present amounts key = not (amount_of amounts key == 0)

-- the amounts with this one for the key
abbrev pub with_amount : Amounts → ℕ → ℕ → Amounts
with_amount amounts key amount =
    if amount == 0
    then filter (λ entry. not (entry.0 == key)) amounts
    else put nat_cmp key amount amounts

-- the amounts with this added to the key's amount
abbrev pub plus_amount : Amounts → ℕ → ℕ → Amounts
plus_amount amounts key more = with_amount amounts key (amount_of amounts key + more)

-- each key with the sum of what is given to it
abbrev pub collected : List (ℕ × ℕ) → Amounts
collected [] = []
collected (part ∷ parts) = plus_amount (collected parts) part.0 part.1

-- what one part gives to a key
abbrev pub part_given : ℕ → ℕ × ℕ → ℕ
part_given q part = if q == part.0 then part.1 else 0

-- what parts give to a key
abbrev pub given : ℕ → List (ℕ × ℕ) → ℕ
given q [] = 0
given q (part ∷ parts) = part_given q part + given q parts

-- the keys that are there
abbrev pub keys_of : Amounts → List ℕ
keys_of amounts = map (λ entry. entry.0) amounts

-- the least number of a list
abbrev pub least : List ℕ → Option ℕ
least [] = None
least (k ∷ ks) = Some (option_map_or (min k) (least ks) k)

-- the least key at which two sides differ
abbrev pub first_difference : Amounts → Amounts → Option ℕ
first_difference a b =
    least (filter (λ key. not (amount_of a key == amount_of b key)) (keys_of a ++ keys_of b))
