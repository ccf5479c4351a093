-- How far the bytes of a log match the beginning of one that has a specification in front.
use Rattle.std.specs.Prelude.{◌≡◌, ℕ, ◌+◌, ◌-◌, ◌<◌, min, false, List, ◌++◌, length, take, drop}
use Rattle.std.specs.Prelude.{Option, Some, None}
use Rattle.std.specs.Bool.{then_some}
use Rattle.std.specs.Str.{bytes_eq}
use Rattle.vyrd_base.specs.LogVerdicts.{own_beginning, is_own_text}

-- What is known of bytes that don't begin so: how many bytes of the beginning they are, or that no
-- longer bytes begin so.
abbrev pub Matches : Option ℕ → List ℕ → Type 0
Matches (Some n) bytes = (n < 11) × (bytes ≡ take n own_beginning)
Matches None bytes = (more : List ℕ) → is_own_text (bytes ++ more) ≡ false

-- how many bytes of the beginning there are with a piece behind the first n of them, if the piece
-- doesn't differ from what comes next
abbrev pub matched_with : ℕ → List ℕ → Option ℕ
matched_with n piece = let part = min (length piece) (11 - n) in
    then_some (bytes_eq (take part piece) (take part (drop n own_beginning))) (n + part)
