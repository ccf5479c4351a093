-- Numbers of lines, kept by where runs of them begin.
use Rattle.std.specs.Prelude.{ℕ, ◌+◌, ◌-◌, ◌^◌, ◌<◌, nat_le, List, [], ◌∷◌, map, if◌then◌else◌}
use Rattle.vyrd_base.specs.Places.{numbers_below}
use Rattle.vyrd_own_check.specs.declared.run.Run.{Run}

-- the number that a run has at a place
abbrev pub number_in : Run → ℕ → ℕ
number_in run place = run.line + (place - run.place)

-- the number at a place, by the last run that begins up to there; `found` is that of the runs
-- before
abbrev pub number_from : ℕ → List Run → ℕ → ℕ
number_from found [] place = found
number_from found (run ∷ runs) place =
    number_from (if nat_le run.place place then number_in run place else found) runs place

-- so many numbers, by their runs
abbrev pub numbers_by : List Run → ℕ → List ℕ
numbers_by runs count = map (number_from 0 runs) (numbers_below count)

-- each of them fits 64 bits
abbrev pub AreNumbers : List Run → ℕ → Type 0
AreNumbers runs count = (place : ℕ) → place < count → number_from 0 runs place < 2 ^ 64
