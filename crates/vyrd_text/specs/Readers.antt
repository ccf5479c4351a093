-- What a reader of a log keeps, and what it has been fed.
use Rattle.std.specs.Prelude.{◌≡◌, ℕ, ◌==◌, Bool, true, false, List, [], ◌∷◌, ◌++◌, Option, Some}
use Rattle.std.specs.Prelude.{None, if◌then◌else◌}
use Rattle.std.specs.List.{slice_split}
use Rattle.vyrd_base.specs.declared.header.Header.{Header}
use Rattle.vyrd_base.specs.declared.log.Entry.{Entry}
use Rattle.vyrd_base.specs.declared.log.StartWord.{StartWord}
use Rattle.vyrd_base.specs.Reading.{Reading, TextFault, Input, stopped, ended, after_end_rule}
use Rattle.vyrd_base.specs.Reading.{lines_read, starts_read, header_before, text_read, reading}

-- What a reader keeps of the lines: how many there may be, the number of the line that is being
-- read, the header if its line was read, whether starting words may come, the last of them, whether
-- the line `end` was read, the first fault of text, and the bytes of the line that is being read.
pub record LineState : Type 0 where
  pub max_lines : ℕ
  pub line : ℕ
  pub header : Option Header
  pub starting : Bool
  pub last : Option StartWord
  pub ended : Bool
  pub fault : Option TextFault
  pub unfinished : List ℕ

-- the same, with the starting words that were read
pub record ReaderState : Type 0 where
  pub max_lines : ℕ
  pub line : ℕ
  pub header : Option Header
  pub starting : Bool
  pub last : Option StartWord
  pub ended : Bool
  pub fault : Option TextFault
  pub unfinished : List ℕ
  pub start : List StartWord

-- what a reader keeps of the lines
abbrev pub lines_of : ReaderState → LineState
lines_of r = record {
  max_lines = r.max_lines;
  line = r.line;
  header = r.header;
  starting = r.starting;
  last = r.last;
  ended = r.ended;
  fault = r.fault;
  unfinished = r.unfinished;
}

-- before the first byte
abbrev pub fresh : ℕ → LineState
fresh max = record {
  max_lines = max;
  line = 1;
  header = None;
  starting = false;
  last = None;
  ended = false;
  fault = None;
  unfinished = [];
}

-- the reader's limit, for bytes that may go on and for the whole input
abbrev pub input_to : LineState → Bool → Input
input_to r is_whole = record { max_lines = r.max_lines; is_whole = is_whole }

abbrev pub so_far : ReaderState → Input
so_far reader = record { max_lines = reader.max_lines; is_whole = false }

abbrev pub whole : ReaderState → Input
whole reader = record { max_lines = reader.max_lines; is_whole = true }

-- starting words and entries that were read before
abbrev pub with_read : List StartWord → List Entry → Reading → Reading
with_read ss es read = record read { starting = ss ++ read.starting; entries = es ++ read.entries }

-- the lines after the line `end`, which may only be one without bytes
abbrev pub after_end : Input → ℕ → List (List ℕ) → Reading
after_end input n [] = stopped n None
after_end input n (line ∷ lines) = ended n (after_end_rule input n line lines)

-- The lines from line n on, after a header if its line was read, and after `end` if that was read.
-- Starting words may come after the last one, or not.
abbrev pub lines_on : Input → ℕ → Option Header → Bool → Option StartWord → Bool → List (List ℕ)
    → Reading
lines_on input n None starting last is_ended lines = text_read input lines
lines_on input n (Some h) starting last true lines = header_before h (after_end input n lines)
lines_on input n (Some h) starting last false lines =
    header_before h
    (if starting then starts_read input h last n lines else lines_read input h.subject n lines)

-- what is known, with a fault or none, and nothing further
abbrev pub known : LineState → Option TextFault → Reading
known r fault =
    record { header = r.header; starting = []; entries = []; ended = r.ended; fault = fault }

-- once a fault stands, nothing more is read
abbrev pub unless_faulty : LineState → Input → List (List ℕ) → Option TextFault → Reading
unless_faulty r input lines None = lines_on input r.line r.header r.starting r.last r.ended lines
unless_faulty r input lines (Some fault) = known r (Some fault)

-- what is made of further bytes: the unfinished line goes on with them
abbrev pub goes_on : LineState → Bool → List ℕ → Reading
goes_on r is_whole more = unless_faulty r (input_to r is_whole)
    (slice_split (λ b. b == 10) (r.unfinished ++ more)) r.fault

-- whatever comes next, the reading of all bytes is these starting words and entries and then what
-- is made of what comes
abbrev pub Follows : LineState → List StartWord → List Entry → List ℕ → Type 0
Follows r ss es bytes = (is_whole : Bool) (more : List ℕ) →
    reading (input_to r is_whole) (bytes ++ more) ≡ with_read ss es (goes_on r is_whole more)

-- The reader has been fed these bytes: what it keeps is what they say as bytes that may go on, and
-- whatever comes next is read as what follows them.
pub record HasRead (reader : ReaderState) (bytes : List ℕ) : Type 0 where
  pub header : reader.header ≡ (reading (so_far reader) bytes).header
  pub start : reader.start ≡ (reading (so_far reader) bytes).starting
  pub ended : reader.ended ≡ (reading (so_far reader) bytes).ended
  pub fault : reader.fault ≡ (reading (so_far reader) bytes).fault
  pub follows : Follows (lines_of reader) (reading (so_far reader) bytes).starting
      (reading (so_far reader) bytes).entries bytes
