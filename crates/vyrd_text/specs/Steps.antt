-- How a reader takes bytes in, for the contracts of its parts.
use Rattle.std.specs.Prelude.{◌≡◌, ℕ, ◌+◌, ◌≤◌, ◌==◌, length, not, Bool, true, false, List, [], ◌∷◌}
use Rattle.std.specs.Prelude.{◌++◌, Option, None}
use Rattle.std.specs.List.{list_all}
use Rattle.vyrd_base.specs.declared.log.Entry.{Entry}
use Rattle.vyrd_base.specs.declared.log.StartWord.{StartWord}
use Rattle.vyrd_base.specs.declared.verdict.Rule.{Rule}
use Rattle.vyrd_base.specs.Reading.{fault_on}
use Rattle.vyrd_base.specs.Limits.{most_lines}
use Rattle.vyrd_text.specs.declared.line_reader.Found.{Found}
use Rattle.vyrd_text.specs.declared.line_reader.Found.TheVariants as brought
use Rattle.vyrd_text.specs.Readers.{LineState, known, goes_on, Follows}
use Rattle.vyrd_text.specs.Ahead.{starts_ahead}

-- the starting word that a line brought, if it did
abbrev pub starts_of : Found → List StartWord
starts_of (brought.Start word) = word ∷ []
starts_of _ = []

-- the entry that a line brought, if it did
abbrev pub entries_of : Found → List Entry
entries_of (brought.Entry entry) = entry ∷ []
entries_of _ = []

-- a fault that the bytes read so far have is reported
abbrev pub IsNoticed : LineState → Type 0
IsNoticed r = goes_on r false [] ≡ known r r.fault

-- the reader as it would be with these bytes of its line
abbrev pub with_line : LineState → List ℕ → LineState
with_line r line = record r { unfinished = line }

-- One reader took in the bytes, found the starting words and entries in them, and became the other.
-- What may still come is fewer starting words by those that were found.
pub record IsTaken (old : LineState) (bytes : List ℕ) (starts : List StartWord) (found : List Entry)
    (new : LineState) : Type 0 where
  pub max_lines : new.max_lines ≡ old.max_lines
  pub follows : (ss : List StartWord) (es : List Entry) (before : List ℕ) → Follows old ss es before
      → Follows new (ss ++ starts) (es ++ found) (before ++ bytes)
  pub noticed : IsNoticed old → IsNoticed new
  pub room : (after : List ℕ)
      → length starts + starts_ahead new after ≤ starts_ahead old (bytes ++ after)

-- The same for the line feed that ends the reader's line: afterwards every fault is reported.
pub record IsLineTaken (old : LineState) (starts : List StartWord) (found : List Entry)
    (new : LineState) : Type 0 where
  pub max_lines : new.max_lines ≡ old.max_lines
  pub follows : (ss : List StartWord) (es : List Entry) (before : List ℕ) → Follows old ss es before
      → Follows new (ss ++ starts) (es ++ found) (before ++ 10 ∷ [])
  pub noticed : IsNoticed new
  pub room : (after : List ℕ)
      → length starts + starts_ahead new after ≤ starts_ahead old (10 ∷ after)

-- whether no byte is a line feed
abbrev pub is_one_line : List ℕ → Bool
is_one_line bytes = list_all (λ b. not (b == 10)) bytes

-- what is true of every reader: it may read from 1 to 268,435,456 lines, and its line is at most
-- one past them; the line that is being read has no line feed and at most 64 bytes; before the
-- header that is line 1, and neither a starting word nor `end` was read
pub record IsSteady (r : LineState) : Type 0 where
  pub low : 1 ≤ r.max_lines
  pub high : r.max_lines ≤ most_lines
  pub counted : r.line ≤ r.max_lines + 1
  pub short : length r.unfinished ≤ 64
  pub one_line : is_one_line r.unfinished ≡ true
  pub first : r.header ≡ None → (r.line ≡ 1) × (r.ended ≡ false) × (r.last ≡ None)

-- the rule that the reader's line breaks with that many further bytes, none of them a line feed
abbrev pub IsRuleOfRest : LineState → ℕ → Option Rule → Type 0
IsRuleOfRest r more rule = (bytes : List ℕ) → length bytes ≡ more → is_one_line bytes ≡ true
    → goes_on r false bytes ≡ known r (fault_on r.line rule)

-- Starting words and entries were added to lists: those that one reader found in the bytes as it
-- became the other.
pub record IsFed (old : LineState) (bytes : List ℕ) (start start_new : List StartWord)
    (before after : List Entry) (new : LineState) : Type 0 where
  pub starts : List StartWord
  pub start_grown : start_new ≡ start ++ starts
  pub found : List Entry
  pub grown : after ≡ before ++ found
  pub taken : IsTaken old bytes starts found new

-- The same for entries alone, from the bytes at the front of a piece, and what is left of the
-- piece.
pub record IsFedFront (old : LineState) (piece : List ℕ) (before after : List Entry)
    (new : LineState) (rest : List ℕ) : Type 0 where
  pub read : List ℕ
  pub parted : piece ≡ read ++ rest
  pub found : List Entry
  pub grown : after ≡ before ++ found
  pub taken : IsTaken old read [] found new
