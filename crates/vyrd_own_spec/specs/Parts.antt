-- How words are decoded, part by part.
use Rattle.std.specs.Prelude.{◌≡◌, ℕ, ◌*◌, ◌/◌, ◌==◌, ◌≤◌, ◌^◌, List, length, slice_index_or}
use Rattle.std.specs.Prelude.{if◌then◌else◌}
use Rattle.vyrd_base.specs.Own.Programs.{Written}
use Rattle.vyrd_base.specs.Own.Steps.{part_gives}

-- how many words a part has: if there is no part, each word is one that gives nothing
abbrev pub width_of : Written → ℕ
width_of w = if w.words == 0 then 1 else w.words

-- whether so many words are a whole number of parts
abbrev pub IsWhole : ℕ → Written → Type 0
IsWhole size w = size / width_of w * width_of w ≡ size

-- what a part gives in each of its places
abbrev pub own_gives : Written → ℕ → List ℕ → ℕ → ℕ × ℕ
own_gives w part words j =
    if w.words == 0 then (0, 0) else slice_index_or (part_gives w part words) j (0, 0)

-- there are not too many words, places and parts
pub record AreFew (w : Written) (width places parts : ℕ) : Type 0 where
  pub wide : 1 ≤ width
  pub narrow : width ≤ 16
  pub some : 1 ≤ places
  pub few : places ≤ 4
  pub shows : length w.shows ≤ places
  pub constants : length w.constants ≤ 64
  pub parts_few : parts ≤ 2 ^ 20
