-- The limits of a header. That of a built-in subject has version 1 or 2, a size from 1 to 1,024,
-- and from 1 to 64 callers. That of a subject of the user's own has version 3, up to 65,536 words,
-- and from 1 to 256 callers. And how many lines a log may have, and how long the names of subjects
-- and of methods are.
use Rattle.std.specs.Prelude.{◌≤◌, ℕ, zero, suc, Bool, true, false, ◌&&◌, ◌==◌, nat_le}

-- the two versions of logs of built-in subjects
abbrev pub is_known_version : ℕ → Bool
is_known_version (suc zero) = true
is_known_version (suc (suc zero)) = true
is_known_version version = false

-- whether the size is from 1 to 1,024, and the callers are from 1 to 64
abbrev pub is_sized : ℕ → ℕ → Bool
is_sized size callers = nat_le 1 size && nat_le size 1024 && nat_le 1 callers && nat_le callers 64

-- whether a built-in subject's header may have this version, this size and this number of callers
abbrev pub is_within : ℕ → ℕ → ℕ → Bool
is_within version size callers = is_known_version version && is_sized size callers

-- whether there may be so many words and callers in a log of version 3
abbrev pub is_own_sized : ℕ → ℕ → Bool
is_own_sized words callers = nat_le words 65536 && nat_le 1 callers && nat_le callers 256

-- the same of the header of the user's own subject, whose size is how many words there are
abbrev pub is_own_within : ℕ → ℕ → ℕ → Bool
is_own_within version words callers = version == 3 && is_own_sized words callers

-- how many lines a log may have
abbrev pub most_lines : ℕ
most_lines = 268435456

-- how many lines a log may have at most, given as the reader's limit
pub record IsLimit (max : ℕ) : Type 0 where
  pub low : 1 ≤ max
  pub high : max ≤ most_lines

-- how many letters a subject's name has at most, and a method's
abbrev pub longest_subject : ℕ
longest_subject = 8

abbrev pub longest_method : ℕ
longest_method = 11
