-- What a reader of a log of version 3 keeps of its lines, and what it makes of further lines.
use Rattle.std.specs.Prelude.{◌≡◌, ℕ, ◌+◌, ◌≤◌, Bool, true, false, List, [], ◌∷◌, Option}
use Rattle.std.specs.Prelude.{Some, None}
use Rattle.vyrd_base.specs.declared.header.Header as headers
use Rattle.vyrd_base.specs.Reading.{TextFault, Input, after_end_rule}
use Rattle.vyrd_base.specs.Own.Reader.{SoFar, nothing_read}
use Rattle.vyrd_base.specs.Own.Log.{OwnReading, own_stopped, entries_read, own_starts_read}
use Rattle.vyrd_base.specs.Own.Log.{specification_read, own_text_read}
use Rattle.vyrd_base.specs.Limits.{most_lines}
use Rattle.vyrd_own_log.specs.declared.stage.Stage.{Stage}
use Rattle.vyrd_own_log.specs.declared.stage.Stage.TheVariants.{Header, Specification, Starts}
use Rattle.vyrd_own_log.specs.declared.stage.Stage.TheVariants.{Entries, End}
use Rattle.vyrd_own_log.specs.Callable.{are_callable}

-- How many lines there may be, the number of the line that is read next, which lines may come, what
-- was read of the specification, and the first fault of text.
pub record LineState : Type 0 where
  pub max_lines : ℕ
  pub line : ℕ
  pub stage : Stage
  pub said : SoFar
  pub fault : Option TextFault

-- before the first line
abbrev pub fresh : ℕ → LineState
fresh max =
    record { max_lines = max; line = 1; stage = Header; said = nothing_read; fault = None }

-- the header, if its line was read, and whether the line `end` was
abbrev pub header_at : Stage → Option headers.Header
header_at Header = None
header_at (Specification h) = Some h
header_at (Starts h last) = Some h
header_at (Entries h) = Some h
header_at (End h) = Some h

abbrev pub has_ended : Stage → Bool
has_ended (End h) = true
has_ended Header = false
has_ended (Specification h) = false
has_ended (Starts h last) = false
has_ended (Entries h) = false

-- the reader's limit, for bytes that may go on and for the whole input
abbrev pub input_to : LineState → Bool → Input
input_to r is_whole = record { max_lines = r.max_lines; is_whole = is_whole }

-- a header before what is read after it
abbrev pub headed : headers.Header → OwnReading → OwnReading
headed h reading = record reading { header = Some h }

-- the lines after the line `end`, which may only be one without bytes
abbrev pub after_end : Input → ℕ → List (List ℕ) → OwnReading
after_end input n [] = own_stopped n None
after_end input n (line ∷ lines) =
    record (own_stopped n (after_end_rule input n line lines)) { ended = true }

-- what the lines from line n on say, by which lines may come
abbrev pub lines_on : Input → SoFar → ℕ → Stage → List (List ℕ) → OwnReading
lines_on input s n Header lines = own_text_read input lines
lines_on input s n (Specification h) lines = headed h (specification_read input h s n lines)
lines_on input s n (Starts h last) lines =
    headed h (own_starts_read input h s.specification last n lines)
lines_on input s n (Entries h) lines = headed h (entries_read input s.specification n lines)
lines_on input s n (End h) lines = headed h (after_end input n lines)

-- what is known, with a fault or none, and nothing further
abbrev pub known : LineState → Option TextFault → OwnReading
known r fault = record {
  header = header_at r.stage;
  lines = [];
  starting = [];
  entries = [];
  numbers = [];
  ended = has_ended r.stage;
  fault = fault;
}

-- once a fault stands, nothing more is read
abbrev pub unless_faulty
    : LineState → Input → List (List ℕ) → Option TextFault → OwnReading
unless_faulty r input lines None = lines_on input r.said r.line r.stage lines
unless_faulty r input lines (Some fault) = known r (Some fault)

abbrev pub reads_on : LineState → Input → List (List ℕ) → OwnReading
reads_on r input lines = unless_faulty r input lines r.fault

-- before the header nothing was read
abbrev pub IsFirst : Stage → LineState → Type 0
IsFirst Header r = (r.line ≡ 1) × (r.said ≡ nothing_read)
IsFirst (Specification h) r = Unit {0}
IsFirst (Starts h last) r = Unit {0}
IsFirst (Entries h) r = Unit {0}
IsFirst (End h) r = Unit {0}

-- What is true of every reader: it may read from 1 to 268,435,456 lines, its line is at most one
-- past them, and entries can call the methods that were read.
pub record IsSteady (r : LineState) : Type 0 where
  pub low : 1 ≤ r.max_lines
  pub high : r.max_lines ≤ most_lines
  pub counted : r.line ≤ r.max_lines + 1
  pub callable : are_callable r.said.specification.methods ≡ true
