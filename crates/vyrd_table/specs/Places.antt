-- A table of places, each with a key and its value, where a key stands in one of four places in a
-- row. The keys that find no place there are the rest, and have their values elsewhere.
use Rattle.std.specs.Prelude.{◌≡◌, ◌≢◌, ℕ, Bool, true, cond, ◌+◌, ◌-◌, ◌*◌, ◌/◌, ◌%◌, ◌^◌}
use Rattle.std.specs.Prelude.{◌<◌, ◌≤◌, ◌==◌, not}
use Rattle.std.specs.Prelude.{List, [], ◌∷◌, length, slice_index_or, count_by}
use Rattle.std.specs.Prelude.{Option, Some, None, if◌then◌else◌}
use Rattle.std.specs.Ordering.{nat_cmp}
use Rattle.std.specs.FinMap.{find, put}
use Rattle.vyrd_table.specs.Entries.{IsEntries}

-- so many places in a row a key may stand in
abbrev pub reach : ℕ
reach = 4

-- a table is made for 2^3 places at least and for 2^20 at most
abbrev pub bits_at_least : ℕ
bits_at_least = 3

abbrev pub bits_at_most : ℕ
bits_at_most = 20

-- So many places there are if 2^bits of them may be the first of a key's: three more stand after
-- the last of these.
abbrev pub place_count : ℕ → ℕ
place_count bits = 2 ^ bits + 3

-- the first of the places in which a key may stand: a multiple of the golden ratio's fraction, so
-- that keys in a row lie apart
unfoldable pub first_place : ℕ → ℕ → ℕ
first_place shift key = (key * 11400714819323198485) % 2 ^ 64 / 2 ^ shift

-- whether a place is one of those in which the key may stand
abbrev pub IsWithin : ℕ → ℕ → ℕ → Type 0
IsWithin shift key i = (first_place shift key ≤ i) × (i < first_place shift key + reach)

-- whether a key stands in a place: it has a value there
abbrev pub is_taken : {V : Type 0} → (V → Bool) → ℕ × V → Bool
is_taken is_nothing place = not (is_nothing place.1)

-- the place with this number; past the table there is nothing
abbrev pub place_at : {V : Type 0} → V → List (ℕ × V) → ℕ → ℕ × V
place_at nothing places i = slice_index_or places i (0, nothing)

-- the first of a key's places that has its name, whether it has a value there or not
abbrev pub IsFoundAt : {V : Type 0} → V → ℕ → List (ℕ × V) → ℕ → Option ℕ → Type 0
IsFoundAt nothing shift places key None =
    (i : ℕ) → IsWithin shift key i → (place_at nothing places i).0 ≢ key
IsFoundAt nothing shift places key (Some i) =
    IsWithin shift key i × ((place_at nothing places i).0 ≡ key)
    × ((j : ℕ) → first_place shift key ≤ j → j < i → (place_at nothing places j).0 ≢ key)

-- A key with a value in the table stands in one of its places, and none of them before that one has
-- its name. A key whose name one of its places has isn't among the rest.
pub record ArePlaces {V : Type 0} (nothing : V) (is_nothing : V → Bool) (shift : ℕ)
    (places rest : List (ℕ × V)) : Type 0 where
  pub shifted : shift < 64
  pub within : (i : ℕ) → is_taken is_nothing (place_at nothing places i) ≡ true
      → IsWithin shift (place_at nothing places i).0 i
  pub first : (i : ℕ) → is_taken is_nothing (place_at nothing places i) ≡ true → (j : ℕ)
      → first_place shift (place_at nothing places i).0 ≤ j → j < i
      → (place_at nothing places j).0 ≢ (place_at nothing places i).0
  pub room : (q : ℕ) → first_place shift q + reach ≤ length places
  pub size : length places ≡ place_count (64 - shift)
  pub away : (i : ℕ) → IsWithin shift (place_at nothing places i).0 i
      → find nat_cmp (place_at nothing places i).0 rest ≡ None
  pub formed : IsEntries is_nothing rest

-- the rest, and on top of it what the places have
unfoldable pub entries_in : {V : Type 0} → (V → Bool) → List (ℕ × V) → List (ℕ × V) → List (ℕ × V)
entries_in is_nothing [] rest = rest
entries_in is_nothing (place ∷ places) rest =
    cond (is_nothing place.1) (entries_in is_nothing places rest)
    (put nat_cmp place.0 place.1 (entries_in is_nothing places rest))

-- no two places have one key, and no key of theirs is there yet
pub record AreNew {V : Type 0} (nothing : V) (is_nothing : V → Bool)
    (base places : List (ℕ × V)) : Type 0 where
  pub single : (i j : ℕ) → is_taken is_nothing (place_at nothing places i) ≡ true
      → is_taken is_nothing (place_at nothing places j) ≡ true
      → (place_at nothing places i).0 ≡ (place_at nothing places j).0 → i ≡ j
  pub absent : (i : ℕ) → is_taken is_nothing (place_at nothing places i) ≡ true
      → find nat_cmp (place_at nothing places i).0 base ≡ None

-- whether a place has the name of another key than 0, whose name each new place has
abbrev pub is_named : {V : Type 0} → ℕ × V → Bool
is_named place = not (place.0 == 0)

-- one name, unless it is that of 0
abbrev pub one_name : ℕ → ℕ
one_name key = if key == 0 then 0 else 1

-- the names that there are, in the places and among the rest, and that of 0: no fewer than the keys
abbrev pub names_in : {V : Type 0} → List (ℕ × V) → List (ℕ × V) → ℕ
names_in places rest = 1 + count_by is_named places + count_by is_named rest
