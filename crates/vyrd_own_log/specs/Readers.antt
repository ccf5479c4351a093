-- What a reader of a log of version 3 keeps, and what it has been fed.
use Rattle.std.specs.Prelude.{◌≡◌, ℕ, ◌≤◌, ◌==◌, Bool, true, false, not, List, [], ◌++◌}
use Rattle.std.specs.Prelude.{length, None}
use Rattle.std.specs.List.{list_all, slice_split}
use Rattle.vyrd_base.specs.declared.log.Entry.{Entry}
use Rattle.vyrd_base.specs.declared.log.StartWord.{StartWord}
use Rattle.vyrd_base.specs.Reading.{Input}
use Rattle.vyrd_base.specs.Own.Reader.{nothing_read, read_lines, written_in}
use Rattle.vyrd_base.specs.Own.Log.{OwnReading, own_reading}
use Rattle.vyrd_own_log.specs.States.{LineState, fresh, header_at, has_ended, input_to, reads_on}
use Rattle.vyrd_own_log.specs.States.{IsFirst, IsSteady}
use Rattle.vyrd_own_log.specs.Steps.{Brought, brought_then, with_read}
use Rattle.vyrd_own_log.specs.Rests.{rest_rule}

-- what is kept: that of the whole lines, the bytes after them, the lines of the specification, and
-- the starting words
pub record OwnReaderKept : Type 0 where
  pub lines : LineState
  pub unfinished : List ℕ
  pub specified : List (List ℕ)
  pub start : List StartWord

-- what a reader keeps, and whether it found no memory
pub record ReaderState : Type 0 where
  pub kept : OwnReaderKept
  pub has_failed : Bool

-- before the first byte
abbrev pub fresh_kept : ℕ → OwnReaderKept
fresh_kept max = record { lines = fresh max; unfinished = []; specified = []; start = [] }

-- the reader's limit, for bytes that may go on and for the whole input
abbrev pub so_far : ReaderState → Input
so_far reader = input_to reader.kept.lines false

abbrev pub whole : ReaderState → Input
whole reader = input_to reader.kept.lines true

-- what is made of further bytes: the unfinished line goes on with them
abbrev pub goes_on : LineState → List ℕ → Bool → List ℕ → OwnReading
goes_on r rest is_whole more =
    reads_on r (input_to r is_whole) (slice_split (λ b. b == 10) (rest ++ more))

-- The bytes brought this, and the rest of them is unfinished: whatever comes next, the reading of
-- all bytes is what was brought and then what is made of what comes.
pub record HasReached (r : LineState) (rest : List ℕ) (b : Brought) (bytes : List ℕ) : Type 0 where
  pub follows : (is_whole : Bool) (more : List ℕ) →
      own_reading (input_to r is_whole) (bytes ++ more)
      ≡ with_read b (goes_on r rest is_whole more)
  pub said : r.said ≡ read_lines nothing_read b.lines

-- what a reading has of lines, starting words, entries and numbers
abbrev pub brought_in : OwnReading → Brought
brought_in read = record {
  lines = read.lines;
  starting = read.starting;
  entries = read.entries;
  numbers = read.numbers;
}

-- whether no byte is a line feed
abbrev pub is_one_line : List ℕ → Bool
is_one_line bytes = list_all (λ b. not (b == 10)) bytes

-- What is true of all that a reader keeps, also after it found no memory: the unfinished line has
-- at most 200 bytes.
pub record IsSafe (k : OwnReaderKept) : Type 0 where
  pub steady : IsSteady k.lines
  pub short : length k.unfinished ≤ 200

-- and as long as it found memory: the unfinished line has no line feed, and if it breaks a rule
-- already, that is known
pub record IsSound (k : OwnReaderKept) : Type 0 where
  pub steady : IsSteady k.lines
  pub first : IsFirst k.lines.stage k.lines
  pub one_line : is_one_line k.unfinished ≡ true
  pub noticed : k.lines.fault ≡ None → rest_rule k.lines k.unfinished ≡ None

-- The reader has been fed these bytes, and found memory: what it keeps is what they say as bytes
-- that may go on, and whatever comes next is read as what follows them.
pub record HasRead (reader : ReaderState) (bytes : List ℕ) : Type 0 where
  pub works : reader.has_failed ≡ false
  pub sound : IsSound reader.kept
  pub header : header_at reader.kept.lines.stage ≡ (own_reading (so_far reader) bytes).header
  pub specification : reader.kept.lines.said.specification
      ≡ written_in (own_reading (so_far reader) bytes).lines
  pub lines : reader.kept.specified ≡ (own_reading (so_far reader) bytes).lines
  pub start : reader.kept.start ≡ (own_reading (so_far reader) bytes).starting
  pub ended : has_ended reader.kept.lines.stage ≡ (own_reading (so_far reader) bytes).ended
  pub fault : reader.kept.lines.fault ≡ (own_reading (so_far reader) bytes).fault
  pub reached : HasReached reader.kept.lines reader.kept.unfinished
      (brought_in (own_reading (so_far reader) bytes)) bytes

-- the bytes brought this, as what was kept became other
pub record IsTaken (old : OwnReaderKept) (bytes : List ℕ) (b : Brought) (new : OwnReaderKept) : Type
    0 where
  pub limit : new.lines.max_lines ≡ old.lines.max_lines
  pub reached : (a : Brought) (before : List ℕ) → HasReached old.lines old.unfinished a before
      → HasReached new.lines new.unfinished (brought_then a b) (before ++ bytes)

-- What the bytes brought was added: lines of the specification and starting words to those that are
-- kept, and entries and numbers to lists.
pub record IsFed (old : OwnReaderKept) (bytes : List ℕ) (entries entries_new : List Entry)
    (numbers numbers_new : List ℕ) (new : OwnReaderKept) : Type 0 where
  pub brought : Brought
  pub taken : IsTaken old bytes brought new
  pub specified : new.specified ≡ old.specified ++ brought.lines
  pub start : new.start ≡ old.start ++ brought.starting
  pub grown : entries_new ≡ entries ++ brought.entries
  pub counted : numbers_new ≡ numbers ++ brought.numbers

-- two lists grew by the same
pub record IsGrownBy {A : Type 0} (first second first_new second_new : List A) : Type 0 where
  pub more : List A
  pub one : first_new ≡ first ++ more
  pub other : second_new ≡ second ++ more

-- What the front of a piece brought was added, and the rest of it is still to be taken in.
pub record IsFedFront (old : OwnReaderKept) (piece rest : List ℕ) (entries entries_new : List Entry)
    (numbers numbers_new : List ℕ) (new : OwnReaderKept) : Type 0 where
  pub read : List ℕ
  pub parted : piece ≡ read ++ rest
  pub fed : IsFed old read entries entries_new numbers numbers_new new
  pub sound : IsSound new
