-- What a line of a history spells: a guess from its fields, which counts only if its one spelling
-- is the line.
use Rattle.std.specs.Prelude.{ℕ, ◌^◌, Bool, ◌&&◌, nat_lt, not, List, [], ◌∷◌, Option, Some, None}
use Rattle.std.specs.Prelude.{codes, if◌then◌else◌}
use Rattle.std.specs.Str.{bytes_eq}
use Rattle.vyrd_base.specs.declared.header.Header.{Header}
use Rattle.vyrd_base.specs.declared.subject.Subject.{Subject}
use Rattle.vyrd_base.specs.declared.log.Entry.{Entry}
use Rattle.vyrd_base.specs.declared.history.Did.{Did}
use Rattle.vyrd_base.specs.declared.history.Did.TheVariants.{Read, Wrote, Took, Gave, Marked}
use Rattle.vyrd_base.specs.declared.history.Stamped.{Stamped}
use Rattle.vyrd_base.specs.Spelling.{is_kind_of}
use Rattle.vyrd_base.specs.Lines.{fields_of, number_of, subject_called, header_of, entry_in}
use Rattle.vyrd_base.specs.Histories.{is_write}
use Rattle.vyrd_mover.specs.HistoryText.{history_header_line, did_line}

-- the header with these numbers, if they are within the limits and the line is their spelling
abbrev pub history_header_if : List ℕ → Option Subject → ℕ → ℕ → Option Header
history_header_if line None size callers = None
history_header_if line (Some subject) size callers =
    if bytes_eq (history_header_line subject size callers) line
    then header_of 1 subject size callers
    else None

-- the first line names a subject, a size and a number of callers
abbrev pub history_header_from : List ℕ → List (List ℕ) → Option Header
history_header_from line (word ∷ subject ∷ size ∷ callers ∷ more) =
    history_header_if line (subject_called subject) (number_of size) (number_of callers)
history_header_from line _ = None

-- the header that the line spells
unfoldable pub history_header_in : List ℕ → Option Header
history_header_in line = history_header_from line (fields_of line)

-- whether a line can say this: numbers are in the text's ranges, and a mark isn't a write, its
-- method is of the subject, and arguments that the method doesn't have are 0
abbrev pub is_did_of : Subject → Did → Bool
is_did_of subject (Read cell value) = nat_lt cell (2 ^ 32) && nat_lt value (2 ^ 64)
is_did_of subject (Wrote cell value) = nat_lt cell (2 ^ 32) && nat_lt value (2 ^ 64)
is_did_of subject (Took lock) = nat_lt lock (2 ^ 32)
is_did_of subject (Gave lock) = nat_lt lock (2 ^ 32)
is_did_of subject (Marked kind) = is_kind_of subject kind && not (is_write kind)

-- whether a line can say the event
abbrev pub is_event_of : Subject → Stamped → Bool
is_event_of subject e = nat_lt e.caller (2 ^ 32) && is_did_of subject e.did

-- the event with this number, caller and deed, if the line is its spelling
abbrev pub event_if : Subject → List ℕ → ℕ → ℕ → Did → Option Stamped
event_if subject line number caller did =
    if is_event_of subject (record { number = number; caller = caller; did = did })
    && bytes_eq (did_line caller did) line
    then Some (record { number = number; caller = caller; did = did }) else None

-- the read, write, take or give that the line spells, by its fields
abbrev pub act_from : Subject → List ℕ → ℕ → List (List ℕ) → Option Stamped
act_from subject line number (caller ∷ word ∷ lock ∷ []) =
    event_if subject line number (number_of caller)
    (if bytes_eq word (codes "took") then Took (number_of lock) else Gave (number_of lock))
act_from subject line number (caller ∷ word ∷ cell ∷ value ∷ []) =
    event_if subject line number (number_of caller)
    (if bytes_eq word (codes "read")
    then Read (number_of cell) (number_of value)
    else Wrote (number_of cell) (number_of value))
act_from subject line number _ = None

-- the mark that an entry is
abbrev pub mark_of : ℕ → Entry → Option Stamped
mark_of number e = if is_write e.kind
    then None
    else Some (record { number = number; caller = e.caller; did = Marked e.kind })

-- the mark that an entry is, and without an entry the other event
abbrev pub mark_or : ℕ → Option Entry → Option Stamped → Option Stamped
mark_or number (Some e) act = mark_of number e
mark_or number None act = act

-- the event that a later line spells, with this number
unfoldable pub event_in : Subject → ℕ → List ℕ → Option Stamped
event_in subject number line =
    mark_or number (entry_in subject line) (act_from subject line number (fields_of line))
