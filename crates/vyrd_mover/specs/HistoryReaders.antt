-- A reader of a history's text, and the bytes that it has read.
use Rattle.std.specs.Prelude.{◌≡◌, ℕ, ◌+◌, ◌≤◌, ◌==◌, Bool, true, false, List, [], ◌∷◌, ◌++◌}
use Rattle.std.specs.Prelude.{length, Option, Some, None, Result}
use Rattle.std.specs.List.{slice_split}
use Rattle.vyrd_text.specs.Steps.{is_one_line}
use Rattle.vyrd_mover.specs.declared.events.Events.{Events}
use Rattle.vyrd_mover.specs.declared.fault.HistoryFault.{HistoryFault}
use Rattle.vyrd_mover.specs.declared.lines.Lines.{Lines}
use Rattle.vyrd_mover.specs.HistoryText.{Recorded}
use Rattle.vyrd_mover.specs.HistoryReading.{Refusal, ended, lines_read, history_reading}
use Rattle.vyrd_mover.specs.EventsRead.{HaveRead}
use Rattle.vyrd_mover.specs.Refusals.{IsRefusal}

-- what the lines from line n on say after the history so far; after the line `end` nothing follows
abbrev pub rest_read : Recorded → ℕ → Bool → List (List ℕ) → Result Recorded Refusal
rest_read r n true lines = ended r n lines
rest_read r n false lines = lines_read r n lines

-- whatever follows these bytes is read after the history so far, from line n on
pub record Follows (n : ℕ) (e : Events) (is_ended : Bool) (bytes : List ℕ) : Type 0 where
  pub recorded : Recorded
  pub have : HaveRead e.ledger e.checker recorded
  pub read : (rest : List ℕ) → history_reading (bytes ++ rest)
      ≡ rest_read recorded n is_ended (slice_split (λ b. b == 10) rest)

-- before line 1 there are no bytes
abbrev pub IsAtLine : ℕ → Option Events → Bool → List ℕ → Type 0
IsAtLine n None is_ended bytes = (bytes ≡ []) × (n ≡ 1) × (is_ended ≡ false)
IsAtLine n (Some e) is_ended bytes = Follows n e is_ended bytes

-- these bytes are whole lines, or are refused whatever follows them
abbrev pub IsAtBy : ℕ → Option Events → Bool → Option HistoryFault → List ℕ → Type 0
IsAtBy n events is_ended None bytes = IsAtLine n events is_ended bytes
IsAtBy n events is_ended (Some fault) bytes =
    (rest : List ℕ) → IsRefusal fault (history_reading (bytes ++ rest))

-- these bytes were taken in
abbrev pub IsAt : Lines → List ℕ → Type 0
IsAt l bytes = IsAtBy l.line l.events l.ended l.fault bytes

-- some bytes were
pub record IsSomewhere (l : Lines) : Type 0 where
  pub bytes : List ℕ
  pub at : IsAt l bytes

-- the front of a text was taken in after these bytes, and the rest of it is left
pub record IsTakenTo (l : Lines) (bytes text rest : List ℕ) : Type 0 where
  pub front : List ℕ
  pub parted : text ≡ front ++ rest
  pub at : IsAt l (bytes ++ front)

-- the lines so far, and the bytes of the line that is unfinished
pub record ReaderState : Type 0 where
  pub lines : Lines
  pub unfinished : List ℕ

-- these bytes were read
pub record HasRead (s : ReaderState) (bytes : List ℕ) : Type 0 where
  pub whole : List ℕ
  pub parted : bytes ≡ whole ++ s.unfinished
  pub at : IsAt s.lines whole
  pub one_line : is_one_line s.unfinished ≡ true
  pub short : length s.unfinished ≤ 64

-- some bytes were
pub record HasReadSome (s : ReaderState) : Type 0 where
  pub bytes : List ℕ
  pub read : HasRead s bytes

-- the front of a piece was read after these bytes, and the rest of it is left
pub record IsFedTo (s : ReaderState) (bytes piece rest : List ℕ) : Type 0 where
  pub front : List ℕ
  pub parted : piece ≡ front ++ rest
  pub read : HasRead s (bytes ++ front)

-- the history so far with one more line, and whether `end` was read by then
pub record GoesOn (e : Events) (r : Recorded) (n : ℕ) (was_ended : Bool) (line : List ℕ)
    (is_ended : Bool) : Type 0 where
  pub recorded : Recorded
  pub have : HaveRead e.ledger e.checker recorded
  pub read : (rest : List ℕ)
      → rest_read r n was_ended (slice_split (λ b. b == 10) (line ++ 10 ∷ rest))
      ≡ rest_read recorded (n + 1) is_ended (slice_split (λ b. b == 10) rest)

-- the history so far with the lines at the front of a text, from line n on, and line m begins the
-- rest of it; none of them is `end`
pub record GoesTo (e : Events) (r : Recorded) (n m : ℕ) (text rest : List ℕ) : Type 0 where
  pub front : List ℕ
  pub parted : text ≡ front ++ rest
  pub recorded : Recorded
  pub have : HaveRead e.ledger e.checker recorded
  pub read : (more : List ℕ)
      → rest_read r n false (slice_split (λ b. b == 10) (front ++ more))
      ≡ rest_read recorded m false (slice_split (λ b. b == 10) more)
