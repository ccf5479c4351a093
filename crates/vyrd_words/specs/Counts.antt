-- What each of the commits has that wait, as it is kept: a byte for each, and the others apart.
use Rattle.std.specs.Prelude.{ℕ, suc, ◌==◌, List, [], ◌∷◌, ◌++◌, slice_index_or, drop}
use Rattle.std.specs.Prelude.{if◌then◌else◌}
use Rattle.std.specs.List.{sum_by}

-- A commit that waits has a count, of the writes that took effect between the commit before it and
-- it, and the late writes: those of its block, if they took effect at it while it waited.
abbrev pub just : ℕ → ℕ × List (ℕ × ℕ)
just count = (count, [])

-- the same, with further late writes
abbrev pub with_late : ℕ × List (ℕ × ℕ) → List (ℕ × ℕ) → ℕ × List (ℕ × ℕ)
with_late commit writes = (commit.0, commit.1 ++ writes)

-- how many of the bytes say that their commit is kept apart
abbrev pub apart_in : List ℕ → ℕ
apart_in [] = 0
apart_in (byte ∷ bytes) = if byte == 255 then suc (apart_in bytes) else apart_in bytes

-- the commits for which bytes stand, with those that are kept apart
abbrev pub counts_of : List ℕ → List (ℕ × List (ℕ × ℕ)) → List (ℕ × List (ℕ × ℕ))
counts_of [] large = []
counts_of (byte ∷ bytes) large =
    if byte == 255
    then slice_index_or large 0 (just 0) ∷ counts_of bytes (drop 1 large)
    else just byte ∷ counts_of bytes large

-- what the counts come to
abbrev pub total : List (ℕ × List (ℕ × ℕ)) → ℕ
total counts = sum_by (λ commit. commit.0) counts

-- the late writes of all of them
abbrev pub late_writes : List (ℕ × List (ℕ × ℕ)) → List (ℕ × ℕ)
late_writes [] = []
late_writes (commit ∷ commits) = commit.1 ++ late_writes commits
