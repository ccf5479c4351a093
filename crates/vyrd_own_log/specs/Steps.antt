-- What a whole line makes of a reader, and what it brings.
use Rattle.std.specs.Prelude.{ℕ, ◌+◌, nat_lt, List, [], ◌∷◌, ◌++◌, Option, Some, None, is_some}
use Rattle.std.specs.Prelude.{if◌then◌else◌}
use Rattle.std.specs.Str.{bytes_eq}
use Rattle.vyrd_base.specs.declared.header.Header as headers
use Rattle.vyrd_base.specs.declared.own.line.SpecificationLine.{SpecificationLine}
use Rattle.vyrd_base.specs.declared.own.line.SpecificationLine.TheVariants as told
use Rattle.vyrd_base.specs.declared.log.Entry as entries
use Rattle.vyrd_base.specs.declared.log.StartWord.{StartWord}
use Rattle.vyrd_base.specs.declared.verdict.Rule.{Rule}
use Rattle.vyrd_base.specs.declared.verdict.Rule.TheVariants as rules
use Rattle.vyrd_base.specs.Spelling.{end_line}
use Rattle.vyrd_base.specs.Starts.{start_rule}
use Rattle.vyrd_base.specs.Lines.{start_in}
use Rattle.vyrd_base.specs.Own.Reader.{SoFar, read_next}
use Rattle.vyrd_base.specs.Own.Entries.{own_entry_in}
use Rattle.vyrd_base.specs.Own.Log.{OwnReading, is_note, own_header_in}
use Rattle.vyrd_own_log.specs.declared.stage.Stage.{Stage}
use Rattle.vyrd_own_log.specs.declared.stage.Stage.TheVariants as stages
use Rattle.vyrd_own_log.specs.declared.stage.Found.{Found}
use Rattle.vyrd_own_log.specs.declared.stage.Found.TheVariants.{Nothing, Specified, Start, Entry}
use Rattle.vyrd_own_log.specs.declared.stage.Found.TheVariants.{End}
use Rattle.vyrd_own_log.specs.States.{LineState}

-- the next line may be one of these
abbrev pub next : LineState → Stage → LineState
next r stage = record r { line = r.line + 1; stage = stage }

-- the line breaks a rule
abbrev pub broken : LineState → Rule → LineState × Found
broken r rule = (record r { fault = Some (record { line = r.line; rule = rule }) }, Nothing)

-- the first line
abbrev pub header_step : LineState → Option headers.Header → LineState × Found
header_step r (Some h) = (next r (stages.Specification h), Nothing)
header_step r None = broken r rules.BadHeader

-- a line of the specification, and what it is
abbrev pub told_step : LineState → headers.Header → SpecificationLine → LineState × Found
told_step r h told.More = (next r (stages.Specification h), Specified)
told_step r h told.Log = (next r (stages.Starts h None), Nothing)
told_step r h (told.Refused rule column) = broken r (rules.Specification rule)

abbrev pub specification_step
    : LineState → headers.Header → SpecificationLine × SoFar → LineState × Found
specification_step r h told = told_step (record r { said = told.1 }) h told.0

-- an entry, or a line that spells none
abbrev pub spelled_step : LineState → headers.Header → Option entries.Entry → LineState × Found
spelled_step r h (Some e) = (next r (stages.Entries h), Entry e)
spelled_step r h None = broken r rules.BadEntry

-- a line where entries stand
abbrev pub entry_step : LineState → headers.Header → List ℕ → LineState × Found
entry_step r h line =
    if is_note line then (next r (stages.Entries h), Nothing)
    else (if bytes_eq line end_line then (next r (stages.End h), End)
    else spelled_step r h (own_entry_in r.said.specification line))

-- a starting word, and the rule that it breaks
abbrev pub word_step : LineState → headers.Header → StartWord → Option Rule → LineState × Found
word_step r h s None = (next r (stages.Starts h (Some s)), Start s)
word_step r h s (Some rule) = broken r rule

-- a line where starting words may stand, with the word that it spells
abbrev pub start_step : LineState → headers.Header → Option StartWord → List ℕ → Option StartWord
    → LineState × Found
start_step r h last line (Some s) = word_step r h s (start_rule h last s)
start_step r h last line None = entry_step r h line

abbrev pub starts_step
    : LineState → headers.Header → Option StartWord → List ℕ → LineState × Found
starts_step r h last line =
    if is_note line then (next r (stages.Starts h last), Nothing)
    else start_step r h last line (start_in line)

-- a line by which lines may come
abbrev pub stage_step : LineState → Stage → List ℕ → LineState × Found
stage_step r stages.Header line = header_step r (own_header_in line)
stage_step r (stages.Specification h) line = specification_step r h (read_next r.said line)
stage_step r (stages.Starts h last) line = starts_step r h last line
stage_step r (stages.Entries h) line = entry_step r h line
stage_step r (stages.End h) line = broken r rules.AfterEnd

-- a whole line
abbrev pub own_step : LineState → List ℕ → LineState × Found
own_step r line =
    if is_some r.fault then (r, Nothing)
    else (if nat_lt r.max_lines r.line then broken r rules.TooManyLines
    else stage_step r r.stage line)

-- lines of a specification, starting words, entries, and numbers of lines
pub record Brought : Type 0 where
  pub lines : List (List ℕ)
  pub starting : List StartWord
  pub entries : List entries.Entry
  pub numbers : List ℕ

abbrev pub nothing_brought : Brought
nothing_brought = record { lines = []; starting = []; entries = []; numbers = [] }

abbrev pub brought_then : Brought → Brought → Brought
brought_then a b = record {
  lines = a.lines ++ b.lines;
  starting = a.starting ++ b.starting;
  entries = a.entries ++ b.entries;
  numbers = a.numbers ++ b.numbers;
}

-- what a line brings that has the number n
abbrev pub starts_of : Found → List StartWord
starts_of (Start s) = s ∷ []
starts_of Nothing = []
starts_of Specified = []
starts_of (Entry e) = []
starts_of End = []

abbrev pub entries_of : Found → List entries.Entry
entries_of (Entry e) = e ∷ []
entries_of Nothing = []
entries_of Specified = []
entries_of (Start s) = []
entries_of End = []

abbrev pub numbers_of : ℕ → Found → List ℕ
numbers_of n (Start s) = n ∷ []
numbers_of n (Entry e) = n ∷ []
numbers_of n End = n ∷ []
numbers_of n Nothing = []
numbers_of n Specified = []

abbrev pub lines_of : List ℕ → Found → List (List ℕ)
lines_of line Specified = line ∷ []
lines_of line Nothing = []
lines_of line (Start s) = []
lines_of line (Entry e) = []
lines_of line End = []

abbrev pub brought_by : ℕ → List ℕ → Found → Brought
brought_by n line found = record {
  lines = lines_of line found;
  starting = starts_of found;
  entries = entries_of found;
  numbers = numbers_of n found;
}

-- what was read before, before what is read
abbrev pub with_read : Brought → OwnReading → OwnReading
with_read b read = record read {
  lines = b.lines ++ read.lines;
  starting = b.starting ++ read.starting;
  entries = b.entries ++ read.entries;
  numbers = b.numbers ++ read.numbers;
}
