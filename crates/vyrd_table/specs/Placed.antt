-- What places and the rest have of each key.
use Rattle.std.specs.Prelude.{ℕ, Bool, List}
use Rattle.vyrd_table.specs.Places.{ArePlaces, entries_in, names_in}
use Rattle.vyrd_table.specs.declared.places.Places.{Places}

-- each key has its value in one of its places or among the rest
abbrev pub ArePlaced : {V : Type 0} → V → (V → Bool) → Places V → Type 0
ArePlaced nothing is_nothing places =
    ArePlaces nothing is_nothing places.shift places.pairs.items places.rest.map.entries

-- the keys with their values
abbrev pub entries_of : {V : Type 0} → (V → Bool) → Places V → List (ℕ × V)
entries_of is_nothing places = entries_in is_nothing places.pairs.items places.rest.map.entries

-- the names that the places and the rest have
abbrev pub names_of : {V : Type 0} → Places V → ℕ
names_of places = names_in places.pairs.items places.rest.map.entries
