-- What the bytes of a log of version 3 say, and the first fault of their text. Line 1 has to spell
-- a
-- header of version 3. The lines after it are the specification, up to a line `log`. Then come
-- starting words and entries, up to a line `end`, after which nothing follows. From line 2 on a
-- line
-- that begins with `#` says nothing. Reading stops at the first line that breaks a rule of text.
use Rattle.std.specs.Prelude.{ℕ, ◌+◌, ◌==◌, Bool, true, false, not, ◌&&◌, nat_lt, nat_le, List, []}
use Rattle.std.specs.Prelude.{◌∷◌, length}
use Rattle.std.specs.Prelude.{Option, Some, None, if◌then◌else◌}
use Rattle.std.specs.Str.{bytes_eq}
use Rattle.std.specs.List.{slice_split}
use Rattle.vyrd_base.specs.declared.header.Header.{Header}
use Rattle.vyrd_base.specs.declared.subject.Subject.TheVariants.{Own}
use Rattle.vyrd_base.specs.declared.own.line.SpecificationLine.TheVariants as said
use Rattle.vyrd_base.specs.declared.own.rule.SpecificationRule.TheVariants.{TooLong, TooMany}
use Rattle.vyrd_base.specs.declared.log.Entry.{Entry}
use Rattle.vyrd_base.specs.declared.log.StartWord.{StartWord}
use Rattle.vyrd_base.specs.declared.verdict.Rule.{Rule}
use Rattle.vyrd_base.specs.declared.verdict.Rule.TheVariants.{TooManyLines, BadHeader, BadEntry}
use Rattle.vyrd_base.specs.declared.verdict.Rule.TheVariants.{NoLineFeed, NoEnd, Specification}
use Rattle.vyrd_base.specs.Limits.{is_own_sized}
use Rattle.vyrd_base.specs.Shape.{◌breaks◌, first_broken}
use Rattle.vyrd_base.specs.Spelling.{header_line, end_line}
use Rattle.vyrd_base.specs.Starts.{start_rule}
use Rattle.vyrd_base.specs.Lines.{fields_of, number_of, start_in, header_of}
use Rattle.vyrd_base.specs.Reading.{TextFault, Input, fault_on, has_any, after_end_rule}
use Rattle.vyrd_base.specs.Own.Programs.{Written}
use Rattle.vyrd_base.specs.Own.Reader.{SoFar, nothing_read, read_next}
use Rattle.vyrd_base.specs.Own.Entries.{own_entry_in}

-- What was read: the header, the lines of the specification, the starting words and entries before
-- the first bad line, the number of the line of each of these and of `end`, whether `end` was read,
-- and the first fault of text.
pub record OwnReading : Type 0 where
  pub header : Option Header
  pub lines : List (List ℕ)
  pub starting : List StartWord
  pub entries : List Entry
  pub numbers : List ℕ
  pub ended : Bool
  pub fault : Option TextFault

-- nothing more is read from line n on
abbrev pub own_stopped : ℕ → Option Rule → OwnReading
own_stopped n rule = record {
  header = None;
  lines = [];
  starting = [];
  entries = [];
  numbers = [];
  ended = false;
  fault = fault_on n rule;
}

-- nothing more is read after the line `end`, which has the number n
abbrev pub own_ended : ℕ → Option Rule → OwnReading
own_ended n rule = record (own_stopped (n + 1) rule) { numbers = n ∷ []; ended = true }

-- the bytes after the last line feed: with more than 200 of them their line is bad already
abbrev pub unfinished_own : Input → ℕ → Rule → List ℕ → Option Rule
unfinished_own input n bad rest = first_broken (
    (has_any rest && nat_lt input.max_lines n breaks TooManyLines)
    ∷ (nat_lt 200 (length rest) breaks bad)
    ∷ (has_any rest && input.is_whole breaks NoLineFeed)
    ∷ (input.is_whole breaks NoEnd) ∷ [])

-- a line that says nothing
abbrev pub is_note : List ℕ → Bool
is_note [] = false
is_note (b ∷ line) = b == 35 && nat_lt (length line) 200

-- an entry before what is read after it; a line that spells none is the first bad one
abbrev pub own_entry_before : ℕ → Option Entry → OwnReading → OwnReading
own_entry_before n (Some e) reading =
    record reading { entries = e ∷ reading.entries; numbers = n ∷ reading.numbers }
own_entry_before n None reading = own_stopped n (Some BadEntry)

-- what the lines from line n on say, where entries stand
abbrev pub entries_read : Input → Written → ℕ → List (List ℕ) → OwnReading
entries_read input w n [] = own_stopped n None
entries_read input w n (rest ∷ []) = own_stopped n (unfinished_own input n BadEntry rest)
entries_read input w n (line ∷ next ∷ lines) =
    if nat_lt input.max_lines n then own_stopped n (Some TooManyLines)
    else (if is_note line then entries_read input w (n + 1) (next ∷ lines)
    else (if bytes_eq line end_line then own_ended n (after_end_rule input (n + 1) next lines)
    else own_entry_before n (own_entry_in w line) (entries_read input w (n + 1) (next ∷ lines))))

-- a starting word before what is read after it, or the rule that it breaks
abbrev pub own_start_before : ℕ → Option Rule → StartWord → OwnReading → OwnReading
own_start_before n None s reading =
    record reading { starting = s ∷ reading.starting; numbers = n ∷ reading.numbers }
own_start_before n (Some rule) s reading = own_stopped n (Some rule)

-- what the lines from line n on say, where starting words may stand, after the last of those before
abbrev pub own_starts_read
    : Input → Header → Written → Option StartWord → ℕ → List (List ℕ) → OwnReading
own_starts_read input h w last n [] = own_stopped n None
own_starts_read input h w last n (rest ∷ []) =
    own_stopped n (unfinished_own input n BadEntry rest)
own_starts_read input h w last n (line ∷ next ∷ lines) =
    if is_note line && not (nat_lt input.max_lines n)
    then own_starts_read input h w last (n + 1) (next ∷ lines)
    else (elim (start_in line) [
      | None ↦ entries_read input w n (line ∷ next ∷ lines)
      | Some s ↦ if nat_lt input.max_lines n then own_stopped n (Some TooManyLines)
          else own_start_before n (start_rule h last s) s
          (own_starts_read input h w (Some s) (n + 1) (next ∷ lines))
    ])

-- a line of the specification before what is read after it
abbrev pub line_before : List ℕ → OwnReading → OwnReading
line_before line reading = record reading { lines = line ∷ reading.lines }

-- the rule that a line of the specification with more than 200 bytes breaks, after the lines before
abbrev pub long_rule : SoFar → Rule
long_rule s = Specification (if nat_le 1000 s.lines then TooMany else TooLong)

-- what the lines from line n on say, where the specification stands, after the lines before
abbrev pub specification_read : Input → Header → SoFar → ℕ → List (List ℕ) → OwnReading
specification_read input h s n [] = own_stopped n None
specification_read input h s n (rest ∷ []) =
    own_stopped n (unfinished_own input n (long_rule s) rest)
specification_read input h s n (line ∷ next ∷ lines) =
    if nat_lt input.max_lines n then own_stopped n (Some TooManyLines)
    else (elim (read_next s line).0 [
      | said.More ↦ line_before line
          (specification_read input h (read_next s line).1 (n + 1) (next ∷ lines))
      | said.Log ↦ own_starts_read input h s.specification None (n + 1) (next ∷ lines)
      | said.Refused rule column ↦ own_stopped n (Some (Specification rule))
    ])

-- the header that these numbers make, if the line is its spelling
abbrev pub own_header_spelled : List ℕ → ℕ → ℕ → Option Header
own_header_spelled line words callers =
    if is_own_sized words callers && bytes_eq (header_line 3 Own words callers) line
    then header_of 3 Own words callers
    else None

-- the header that a line spells: `vyrd`, 3, `own`, the number of words and that of callers
abbrev pub own_header_from : List ℕ → List (List ℕ) → Option Header
own_header_from line (word ∷ version ∷ subject ∷ words ∷ callers ∷ more) =
    own_header_spelled line (number_of words) (number_of callers)
own_header_from line _ = None

unfoldable pub own_header_in : List ℕ → Option Header
own_header_in line = own_header_from line (fields_of line)

-- what all lines say: the header's line first
abbrev pub own_text_read : Input → List (List ℕ) → OwnReading
own_text_read input [] = own_stopped 1 None
own_text_read input (rest ∷ []) = own_stopped 1 (unfinished_own input 1 BadHeader rest)
own_text_read input (line ∷ next ∷ lines) = elim (own_header_in line) [
  | None ↦ own_stopped 1 (Some BadHeader)
  | Some h ↦ record (specification_read input h nothing_read 2 (next ∷ lines)) { header = Some h }
]

-- what the bytes say; they are cut at their line feeds
unfoldable pub own_reading : Input → List ℕ → OwnReading
own_reading input bytes = own_text_read input (slice_split (λ b. b == 10) bytes)
