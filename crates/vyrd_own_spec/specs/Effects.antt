-- How many keys the steps of a specification touch at most.
use Rattle.std.specs.Prelude.{ℕ, ◌*◌, List, [], ◌∷◌, max, length}
use Rattle.vyrd_base.specs.Own.Programs.{Case, Method, Written}
use Rattle.vyrd_base.specs.Own.Reader.{written_in}
use Rattle.vyrd_base.specs.Rules.{Charter, built_in, own}

-- the greatest number that one of these has
abbrev pub most_of : {A : Type 0} → (A → ℕ) → List A → ℕ
most_of f [] = 0
most_of f (x ∷ xs) = max (f x) (most_of f xs)

-- how many lines of a case change something: each of them is one effect
abbrev pub line_count : Case → ℕ
line_count case = length case.changes

-- how many lines the longest case of a method has
abbrev pub longest_case : Method → ℕ
longest_case m = most_of line_count m.cases

-- how many effects one step has at most: as many as the longest case of all methods has lines
abbrev pub most_effects : Written → ℕ
most_effects w = most_of longest_case w.methods

-- How many keys each step pays for. An effect sets one key at most. It touches that key now, and
-- once more when all keys that are shown are cleared: so it is paid for twice.
abbrev pub most_touched : Charter → ℕ
most_touched (built_in h) = 0
most_touched (own h lines) = 2 * most_effects (written_in lines)
