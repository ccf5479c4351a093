-- What the bytes of a batch say: where the bytes of its logs stand, or at which log it is refused.
-- The first line is `batch`. Then come the logs one by one, each as the line `log B` with exactly B
-- bytes after it, and then the line `end`, with nothing after it.
use Rattle.std.specs.Prelude.{ℕ, zero, suc, ◌+◌, ◌-◌, ◌≤◌, ◌==◌, ◌&&◌, nat_le, List, [], ◌∷◌, ◌++◌}
use Rattle.std.specs.Prelude.{length, map, drop, slice_range, Option, Some, None, option_map}
use Rattle.std.specs.Prelude.{option_and_then, Result, Ok, Err, codes, decimal, if◌then◌else◌}
use Rattle.std.specs.Prelude.{flat_map}
use Rattle.std.specs.Str.{bytes_eq}
use Rattle.std.specs.List.{AllByRecursion}
use Rattle.vyrd_base.specs.Lines.{number_of}
use Rattle.vyrd_base.specs.Spelling.{ended_line}
use Rattle.vyrd_batch.specs.declared.span.Span.{Span}

-- how many logs a batch may have, how many bytes a log, and within how many bytes of the input its
-- logs lie
abbrev pub most_logs : ℕ
most_logs = 10000

abbrev pub most_bytes : ℕ
most_bytes = 16777216

abbrev pub logs_end_within : ℕ
logs_end_within = 67108864

-- the first line, the line before a log of `size` bytes, and the last line
abbrev pub first_word : List ℕ
first_word = codes "batch"

abbrev pub log_word : ℕ → List ℕ
log_word size = codes "log " ++ decimal size

abbrev pub last_line : List ℕ
last_line = codes "end\n"

-- a line without its line feed, and what stands after that
pub record Cut : Type 0 where
  pub line : List ℕ
  pub rest : List ℕ

-- one more byte of a line
abbrev pub longer : ℕ → Cut → Cut
longer b cut = record { line = b ∷ cut.line; rest = cut.rest }

-- the first line, if there is a line feed
abbrev pub first_line : List ℕ → Option Cut
first_line [] = None
first_line (b ∷ bytes) = if b == 10
    then Some (record { line = []; rest = bytes })
    else option_map (longer b) (first_line bytes)

-- how many bytes the line before a log says, if it is such a line
abbrev pub size_in : List ℕ → Option ℕ
size_in line = let size = number_of (drop 4 line) in
    if nat_le size most_bytes && bytes_eq (log_word size) line then Some size else None

-- a span of `size` bytes from a place on, if that many follow, and they lie within the limit
abbrev pub span_of : ℕ → List ℕ → Option ℕ → Option Span
span_of first rest None = None
span_of first rest (Some size) =
    if nat_le size (length rest) && nat_le (first + size) logs_end_within
    then Some (record { first = first; past = first + size })
    else None

-- where the bytes of a log stand whose line begins at a place of the input, with these bytes from
-- there on
abbrev pub log_at : ℕ → List ℕ → Option Span
log_at place bytes =
    option_and_then (λ cut. span_of (place + length cut.line + 1) cut.rest (size_in cut.line))
    (first_line bytes)

-- one more log before those that were found
abbrev pub span_before : Span → Result (List Span) ℕ → Result (List Span) ℕ
span_before span (Ok spans) = Ok (span ∷ spans)
span_before span (Err log) = Err log

-- The logs from a place of the input on, with these bytes from there on. `log` logs came before,
-- and at most `more` may come.
unfoldable pub logs_from : (more log place : ℕ) → List ℕ → Result (List Span) ℕ
logs_from zero log place bytes = if bytes_eq bytes last_line then Ok [] else Err log
logs_from (suc more) log place bytes = if bytes_eq bytes last_line
    then Ok []
    else elim (log_at place bytes) as (λ _. Result (List Span) ℕ) [
      | None ↦ Err log
      | Some span ↦
          span_before span (logs_from more (log + 1) span.past (drop (span.past - place) bytes))
    ]

-- the logs after the first line
abbrev pub logs_behind : Cut → Result (List Span) ℕ
logs_behind cut = if bytes_eq cut.line first_word
    then logs_from most_logs 0 (length cut.line + 1) cut.rest
    else Err 0

-- where the logs stand that the bytes hold, or the log at which they are refused
unfoldable pub batch_reading : List ℕ → Result (List Span) ℕ
batch_reading bytes = elim (first_line bytes) as (λ _. Result (List Span) ℕ) [
  | None ↦ Err 0
  | Some cut ↦ logs_behind cut
]

-- the bytes of a span
abbrev pub bytes_of : List ℕ → Span → List ℕ
bytes_of input span = slice_range input span.first span.past

-- the logs that stand in the spans of an input
abbrev pub logs_of : List ℕ → Result (List Span) ℕ → Result (List (List ℕ)) ℕ
logs_of input (Ok spans) = Ok (map (bytes_of input) spans)
logs_of input (Err log) = Err log

-- the logs of a batch, or the log at which it is refused
abbrev pub batch_logs : List ℕ → Result (List (List ℕ)) ℕ
batch_logs input = logs_of input (batch_reading input)

-- whether a span lies within `len` bytes
abbrev pub LiesWithin : ℕ → Span → Type 0
LiesWithin len span = (span.first ≤ span.past) × (span.past ≤ len)

-- a log as it stands in a batch, and a whole batch
abbrev pub log_text : List ℕ → List ℕ
log_text log = ended_line (log_word (length log)) ++ log

abbrev pub batch_of : List (List ℕ) → List ℕ
batch_of logs = ended_line first_word ++ flat_map log_text logs ++ last_line

-- the logs keep the limits of a batch
pub record FitBatch (logs : List (List ℕ)) : Type 0 where
  pub few : length logs ≤ most_logs
  pub short : AllByRecursion (λ log. length log ≤ most_bytes) logs
  pub near : length (ended_line first_word ++ flat_map log_text logs) ≤ logs_end_within
