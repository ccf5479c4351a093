-- The words that a program takes which only checks.
use Rattle.std.specs.Prelude.{Bool, false, ℕ, List, [], ◌∷◌, map, codes}
use Rattle.std.specs.Str.{bytes_eq}
use Rattle.std.specs.Borrow.{Bor}

-- whether they are `check`, and nothing else
abbrev pub is_check : List (List ℕ) → Bool
is_check (word ∷ []) = bytes_eq word (codes "check")
is_check _ = false

-- the same, of the words that a call is given
abbrev pub asks_check : List (Bor (List ℕ)) → Bool
asks_check words = is_check (map (λ word. word.now) words)

-- the usage line
abbrev pub usage_line : List ℕ
usage_line = codes "usage: vyrd_checker check\n"
