-- What the bytes of a log say, and the first fault of their text. The bytes are cut at their line
-- feeds. Line 1 has to spell a header. In version 2 the lines after it that spell starting words,
-- up to the first that doesn't, are starting lines. Each later line has to spell an entry of the
-- subject or `end`, after which nothing follows. Reading stops at the first line that breaks a rule
-- of text, and if that line breaks several, the first in the order of the rules is named.
use Rattle.std.specs.Prelude.{ℕ, ◌+◌, ◌==◌, Bool, true, false, ◌&&◌, ◌||◌, nat_lt, List, [], ◌∷◌}
use Rattle.std.specs.Prelude.{length, Option, Some, None, option_map, Ok, Err, if◌then◌else◌}
use Rattle.std.specs.Str.{bytes_eq}
use Rattle.std.specs.List.{slice_split}
use Rattle.vyrd_base.specs.declared.header.Header.{Header}
use Rattle.vyrd_base.specs.declared.subject.Subject.{Subject}
use Rattle.vyrd_base.specs.declared.log.Entry.{Entry}
use Rattle.vyrd_base.specs.declared.log.StartWord.{StartWord}
use Rattle.vyrd_base.specs.declared.verdict.Rule.{Rule}
use Rattle.vyrd_base.specs.declared.verdict.Rule.TheVariants.{TooManyLines, AfterEnd, BadHeader}
use Rattle.vyrd_base.specs.declared.verdict.Rule.TheVariants.{BadEntry, NoLineFeed, NoEnd}
use Rattle.vyrd_base.specs.Shape.{◌breaks◌, first_broken}
use Rattle.vyrd_base.specs.Spelling.{end_line}
use Rattle.vyrd_base.specs.Starts.{start_rule}
use Rattle.vyrd_base.specs.Lines.{start_in, entry_in, header_in}

-- a line that breaks a rule of text
pub record TextFault : Type 0 where
  pub line : ℕ
  pub rule : Rule

-- what was read: the starting words and entries before the first bad line, whether `end` was read,
-- and the first fault of text
pub record Reading : Type 0 where
  pub header : Option Header
  pub starting : List StartWord
  pub entries : List Entry
  pub ended : Bool
  pub fault : Option TextFault

-- the rule that is broken, if one is, with the line that breaks it
abbrev pub fault_on : ℕ → Option Rule → Option TextFault
fault_on n rule = option_map (λ r. record { line = n; rule = r }) rule

-- nothing more is read from line n on
abbrev pub stopped : ℕ → Option Rule → Reading
stopped n rule =
    record { header = None; starting = []; entries = []; ended = false; fault = fault_on n rule }

-- How many lines there may be, at least 1, and whether the bytes are the whole input: if they may
-- go on, a line without its line feed and an `end` that wasn't read aren't faults yet.
pub record Input : Type 0 where
  pub max_lines : ℕ
  pub is_whole : Bool

-- whether a list has anything in it
abbrev pub has_any : {A : Type 0} → List A → Bool
has_any [] = false
has_any (x ∷ xs) = true

-- the bytes after the last line feed: with more than 64 of them their line is bad already
abbrev pub unfinished_rule : Input → ℕ → Rule → List ℕ → Option Rule
unfinished_rule input n bad rest = first_broken (
    (has_any rest && nat_lt input.max_lines n breaks TooManyLines)
    ∷ (nat_lt 64 (length rest) breaks bad)
    ∷ (has_any rest && input.is_whole breaks NoLineFeed)
    ∷ (input.is_whole breaks NoEnd) ∷ [])

-- any byte after the line `end`, if the next line has the number n
abbrev pub after_end_rule : Input → ℕ → List ℕ → List (List ℕ) → Option Rule
after_end_rule input n line lines = first_broken (
    ((has_any line || has_any lines) && nat_lt input.max_lines n breaks TooManyLines)
    ∷ ((has_any line || has_any lines) breaks AfterEnd) ∷ [])

-- an entry before what is read after it; a line that spells none is the first bad one
abbrev pub entry_before : ℕ → Option Entry → Reading → Reading
entry_before n (Some e) reading = record reading { entries = e ∷ reading.entries }
entry_before n None reading = stopped n (Some BadEntry)

-- nothing more is read after the line `end`, and line n comes after it
abbrev pub ended : ℕ → Option Rule → Reading
ended n rule =
    record { header = None; starting = []; entries = []; ended = true; fault = fault_on n rule }

-- What the lines from line n on say. The last of them is what stands after the last line feed.
abbrev pub lines_read : Input → Subject → ℕ → List (List ℕ) → Reading
lines_read input subject n [] = stopped n None
lines_read input subject n (rest ∷ []) = stopped n (unfinished_rule input n BadEntry rest)
lines_read input subject n (line ∷ next ∷ lines) =
    if nat_lt input.max_lines n then stopped n (Some TooManyLines)
    else (if bytes_eq line end_line then ended (n + 1) (after_end_rule input (n + 1) next lines)
    else entry_before n (entry_in subject line) (lines_read input subject (n + 1) (next ∷ lines)))

-- a starting word before what is read after it, or the rule that it breaks
abbrev pub start_before : ℕ → Option Rule → StartWord → Reading → Reading
start_before n None s reading = record reading { starting = s ∷ reading.starting }
start_before n (Some rule) s reading = stopped n (Some rule)

-- What the lines from line n on say, where starting words may stand, after the last of those
-- before.
abbrev pub starts_read : Input → Header → Option StartWord → ℕ → List (List ℕ) → Reading
starts_read input h last n [] = stopped n None
starts_read input h last n (rest ∷ []) = stopped n (unfinished_rule input n BadEntry rest)
starts_read input h last n (line ∷ next ∷ lines) = elim (start_in line) [
  | None ↦ lines_read input h.subject n (line ∷ next ∷ lines)
  | Some s ↦ if nat_lt input.max_lines n then stopped n (Some TooManyLines)
      else start_before n (start_rule h last s) s
      (starts_read input h (Some s) (n + 1) (next ∷ lines))
]

-- what the lines after the header say: starting words come in version 2 alone
abbrev pub body_read : Input → Header → List (List ℕ) → Reading
body_read input h lines =
    if h.version == 2 then starts_read input h None 2 lines else lines_read input h.subject 2 lines

-- a header before what is read after it
abbrev pub header_before : Header → Reading → Reading
header_before h reading = record reading { header = Some h }

-- what all lines say: the header's line first
abbrev pub text_read : Input → List (List ℕ) → Reading
text_read input [] = stopped 1 None
text_read input (rest ∷ []) = stopped 1 (unfinished_rule input 1 BadHeader rest)
text_read input (line ∷ next ∷ lines) = elim (header_in line) [
  | Ok h ↦ header_before h (body_read input h (next ∷ lines))
  | Err rule ↦ stopped 1 (Some rule)
]

-- what the bytes say; they are cut at their line feeds
unfoldable pub reading : Input → List ℕ → Reading
reading input bytes = text_read input (slice_split (λ b. b == 10) bytes)
