-- How many starting words further bytes can bring a reader. A starting line begins with the letter
-- s, and no entry does, so as many as lines begin with it.
use Rattle.std.specs.Prelude.{ℕ, ◌+◌, ◌==◌, Bool, false, List, [], ◌∷◌, ◌++◌, Option, Some, None}
use Rattle.std.specs.Prelude.{if◌then◌else◌}
use Rattle.std.specs.List.{slice_split}
use Rattle.vyrd_base.specs.declared.header.Header.{Header}
use Rattle.vyrd_base.specs.Reading.{TextFault}
use Rattle.vyrd_text.specs.Readers.{LineState}

-- whether a line begins as a starting line
abbrev pub begins_start : List ℕ → Bool
begins_start [] = false
begins_start (b ∷ line) = b == 115

-- how many whole lines at the front begin so; the last line isn't whole
abbrev pub front_starts : List (List ℕ) → ℕ
front_starts [] = 0
front_starts (rest ∷ []) = 0
front_starts (line ∷ next ∷ lines) =
    if begins_start line then 1 + front_starts (next ∷ lines) else 0

-- the lines after the first
abbrev pub after_first : List (List ℕ) → List (List ℕ)
after_first [] = []
after_first (line ∷ lines) = lines

-- how many starting words may come in the lines: none before the header's line
abbrev pub starts_in_lines : Option TextFault → Option Header → Bool → List (List ℕ) → ℕ
starts_in_lines (Some fault) header starting lines = 0
starts_in_lines None None starting lines = front_starts (after_first lines)
starts_in_lines None (Some h) starting lines = if starting then front_starts lines else 0

-- how many starting words may come in further bytes
abbrev pub starts_ahead : LineState → List ℕ → ℕ
starts_ahead r more =
    starts_in_lines r.fault r.header r.starting (slice_split (λ b. b == 10) (r.unfinished ++ more))
