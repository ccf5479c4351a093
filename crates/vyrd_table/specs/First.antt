-- The first of the keys whose values pass a test that nothing doesn't pass.
use Rattle.std.specs.Prelude.{◌≡◌, ℕ, Bool, true, false, cond, ◌≤◌, min, List, Option, Some, None}
use Rattle.vyrd_table.specs.Entries.{value_of}

-- the least key whose value passes, or none if there is none
abbrev pub IsFirst : {V : Type 0} → V → (V → Bool) → List (ℕ × V) → Option ℕ → Type 0
IsFirst nothing test entries None = (q : ℕ) → test (value_of nothing entries q) ≡ false
IsFirst nothing test entries (Some key) = (test (value_of nothing entries key) ≡ true)
    × ((q : ℕ) → test (value_of nothing entries q) ≡ true → key ≤ q)

-- the lesser of a key and another, if there is one
abbrev pub lesser : Option ℕ → ℕ → ℕ
lesser None key = key
lesser (Some found) key = min found key

-- what was found, and the key of a place if its value passes
abbrev pub IsFirstOf : {V : Type 0} → (V → Bool) → Option ℕ → ℕ × V → Option ℕ → Type 0
IsFirstOf test found place result =
    result ≡ cond (test place.1) (Some (lesser found place.0)) found
