-- How many bytes lines have, each with its line feed, if none has more than so many.
use Rattle.vyrd_log_check.proofs.Prelude
use Prelude.{◌≡◌, ℕ, suc, ◌+◌, ◌-◌, ◌*◌, ◌<◌, ◌≤◌, Bool, true, false, cond, ◌&&◌, List, [], ◌∷◌}
use Prelude.{length, None, ap, ◌∙◌, arith, ◌==◌, nat_lt, slice_split, onto_first, mul-suc, Rule}
use Prelude.{TooManyLines, NoLineFeed, NoEnd, ◌breaks◌, first_broken, has_any, after_end_rule}
use Prelude.{so_far, some_parts, below_of, not_below_of}

-- the bytes of some parts, each with one byte after it
abbrev pub size_of : List (List ℕ) → ℕ
size_of [] = 0
size_of (p ∷ ps) = length p + 1 + size_of ps

-- parts of a text have its bytes, and one more for the last
pub size_of_split : (p : ℕ → Bool) (xs : List ℕ) → size_of (slice_split p xs) ≡ length xs + 1
size_of_split p [] = omega arith
size_of_split p (x ∷ xs) = by_test (size_of_split p xs) (p x)
  where
    onto : (parts : List (List ℕ)) → 0 < length parts → size_of parts ≡ length xs + 1
        → size_of (onto_first x parts) ≡ length xs + 1 + 1
    onto [] some e = absurd (omega arith)
    onto (q ∷ qs) some e = omega arith

    by_test : size_of (slice_split p xs) ≡ length xs + 1 → (b : Bool)
        → size_of (cond b ([] ∷ slice_split p xs) (onto_first x (slice_split p xs)))
        ≡ length (x ∷ xs) + 1
    by_test e true = omega arith
    by_test e false = onto (slice_split p xs) (some_parts p xs) e ∙ omega arith

-- a line that can't be longer
pub no_longer : (most : ℕ) (line : List ℕ) → (most < length line → ⊥) → length line ≤ most
no_longer most line never = grind (arith, never, not_below_of, below_of)

-- after `end` nothing stands
pub nothing_after : (max n : ℕ) (next : List ℕ) (lines : List (List ℕ))
    → after_end_rule (so_far max) n next lines ≡ None → size_of (next ∷ lines) ≡ 1
nothing_after max n next lines e = grind arith

-- where there are at most `max` lines, and none has more than `most` bytes
module _ (most max : ℕ) where
  -- the bytes that there may be from line n on
  pub room_from : ℕ → ℕ
  room_from n = (most + 1) * (max + 1 - n)

  -- one line fewer leaves less room
  room_more : (n : ℕ) → n ≤ max → room_from n ≡ room_from (n + 1) + (most + 1)
  unfolding room_from
  room_more n low =
      let fewer : max + 1 - n ≡ suc (max + 1 - (n + 1)) = omega (arith, low) in
      ap (λ k. (most + 1) * k) fewer ∙ mul-suc (most + 1) (max + 1 - (n + 1))

  -- whether lines from line n on have no more
  abbrev pub AreShort : ℕ → List (List ℕ) → Type 0
  AreShort n lines = size_of lines ≤ room_from n + 1

  -- one line more
  pub one_line : (n : ℕ) (line : List ℕ) (lines : List (List ℕ)) → n ≤ max
      → length line ≤ most → AreShort (n + 1) lines → AreShort n (line ∷ lines)
  one_line n line lines low short more = omega (arith, room_more n low, short, more)

  -- a last line, after which nothing stands
  pub one_more : (n : ℕ) (line : List ℕ) (lines : List (List ℕ)) → n ≤ max
      → length line ≤ most → size_of lines ≡ 1 → AreShort n (line ∷ lines)
  one_more n line lines low short none = one_line n line lines low short (omega (arith, none))

  -- the bytes after the last line feed, if they aren't a fault
  pub last_short : (n : ℕ) (bad : Rule) (rest : List ℕ)
      → first_broken ((has_any rest && nat_lt max n breaks TooManyLines)
      ∷ (nat_lt most (length rest) breaks bad) ∷ (has_any rest && false breaks NoLineFeed)
      ∷ (false breaks NoEnd) ∷ []) ≡ None
      → AreShort n (rest ∷ [])
  last_short n bad rest none = search (not_below_of, room_more, arith)

  -- the text that was cut into them
  pub all_short : (bytes : List ℕ) → AreShort 1 (slice_split (λ b. b == 10) bytes)
      → length bytes ≤ (most + 1) * max
  unfolding room_from
  all_short bytes short = search (size_of_split, arith)
