-- What more bytes leave of what was read, and what is true of all that is read.
use Rattle.std.specs.Prelude.{◌≡◌, ℕ, ◌+◌, ◌≤◌, Bool, true, false, ◌||◌, List, ◌++◌, length}
use Rattle.std.specs.Prelude.{Some, None}
use Rattle.vyrd_base.specs.declared.header.Header.{Header}
use Rattle.vyrd_base.specs.declared.log.Entry.{Entry}
use Rattle.vyrd_base.specs.declared.log.StartWord.{StartWord}
use Rattle.vyrd_base.specs.declared.subject.Subject.TheVariants.{Own}
use Rattle.vyrd_base.specs.Starts.{do_follow}
use Rattle.vyrd_base.specs.Reading.{TextFault, Input, has_any}
use Rattle.vyrd_base.specs.Own.Log.{OwnReading}

-- bytes that may go on, and bytes that are the whole input or may go on
abbrev pub input_of : ℕ → Bool → Input
input_of max is_whole = record { max_lines = max; is_whole = is_whole }

abbrev pub to_go_on : ℕ → Input
to_go_on max = input_of max false

-- whether an entry or `end` was read: then neither lines of the specification nor starting words
-- come any more
abbrev pub has_begun : OwnReading → Bool
has_begun read = has_any read.entries || read.ended

-- All that was read is there, and perhaps more: all, where a fault is known; and no more lines,
-- starting words, entries and numbers, where `end` was read.
pub record IsGrown (old new : OwnReading) : Type 0 where
  pub header : (h : Header) → old.header ≡ Some h → new.header ≡ Some h
  pub lines : (grown : List (List ℕ)) × (new.lines ≡ old.lines ++ grown)
  pub starting : (grown : List StartWord) × (new.starting ≡ old.starting ++ grown)
  pub entries : (grown : List Entry) × (new.entries ≡ old.entries ++ grown)
  pub numbers : (grown : List ℕ) × (new.numbers ≡ old.numbers ++ grown)
  pub begun : has_begun old ≡ true → (new.lines ≡ old.lines) × (new.starting ≡ old.starting)
  pub ended : old.ended ≡ true
      → (new.ended ≡ true) × (new.entries ≡ old.entries) × (new.numbers ≡ old.numbers)
  pub fault : (f : TextFault) → old.fault ≡ Some f → new ≡ old

-- how many lines `end` is
abbrev pub ends : Bool → ℕ
ends true = 1
ends false = 0

-- Starting words, entries and `end` have their lines, which are no more than there may be, none
-- comes without a header, and the starting words keep both rules.
pub record IsFormed (max : ℕ) (read : OwnReading) : Type 0 where
  pub numbered : length read.numbers
      ≡ length read.starting + length read.entries + ends read.ended
  pub few : length read.numbers ≤ max
  pub headless : read.header ≡ None → has_begun read ≡ false
  pub header : (h : Header) → read.header ≡ Some h
      → (h.subject ≡ Own) × (do_follow h None read.starting ≡ true)
