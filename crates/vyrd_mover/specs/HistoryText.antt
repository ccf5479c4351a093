-- A history as a list with its header, and its one text: a line for the header, a line for each
-- event, and the line `end`. The event with the number i stands on line i + 2. Numbers, spaces and
-- line feeds are those of a log, and so are the lines of marks.
use Rattle.std.specs.Prelude.{ℕ, List, [], ◌∷◌, ◌++◌, map, codes, decimal, flat_map}
use Rattle.vyrd_base.specs.declared.header.Header.{Header}
use Rattle.vyrd_base.specs.declared.subject.Subject.{Subject}
use Rattle.vyrd_base.specs.declared.history.Did.{Did}
use Rattle.vyrd_base.specs.declared.history.Did.TheVariants.{Read, Wrote, Took, Gave, Marked}
use Rattle.vyrd_base.specs.declared.history.Stamped.{Stamped}
use Rattle.vyrd_base.specs.Spelling.{spaced, ended_line, subject_name, entry_line, end_line}

-- a history with its header
pub record Recorded : Type 0 where
  pub header : Header
  pub history : List Stamped

-- line 1: `history`, the subject, the size and the number of callers
abbrev pub history_header_line : Subject → ℕ → ℕ → List ℕ
history_header_line subject size callers =
    spaced (codes "history" ∷ subject_name subject ∷ decimal size ∷ decimal callers ∷ [])

-- a later line: the caller's number, and what it did
abbrev pub did_line : ℕ → Did → List ℕ
did_line caller (Read cell value) =
    spaced (decimal caller ∷ codes "read" ∷ decimal cell ∷ decimal value ∷ [])
did_line caller (Wrote cell value) =
    spaced (decimal caller ∷ codes "wrote" ∷ decimal cell ∷ decimal value ∷ [])
did_line caller (Took lock) = spaced (decimal caller ∷ codes "took" ∷ decimal lock ∷ [])
did_line caller (Gave lock) = spaced (decimal caller ∷ codes "gave" ∷ decimal lock ∷ [])
did_line caller (Marked kind) = entry_line (record { caller = caller; kind = kind })

-- the line of an event
abbrev pub event_line : Stamped → List ℕ
event_line e = did_line e.caller e.did

-- all lines, without their line feeds
abbrev pub history_lines : Recorded → List (List ℕ)
history_lines r = history_header_line r.header.subject r.header.size r.header.callers
    ∷ map event_line r.history ++ end_line ∷ []

-- the text of a history
unfoldable pub history_text : Recorded → List ℕ
history_text r = flat_map ended_line (history_lines r)
