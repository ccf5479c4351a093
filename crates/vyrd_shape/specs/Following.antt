-- What the rules of shape need to know of the entries so far.
use Rattle.std.specs.Prelude.{◌≡◌, ℕ, ◌+◌, ◌<◌, ◌≤◌, ◌==◌, false, List, length, Some, slice_index}
use Rattle.std.specs.Prelude.{slice_get}
use Rattle.vyrd_base.specs.declared.header.Header.{Header}
use Rattle.vyrd_base.specs.declared.log.Entry.{Entry}
use Rattle.vyrd_base.specs.Layout.{plain_words}
use Rattle.vyrd_base.specs.Callers.{holds_word}
use Rattle.vyrd_base.specs.Front.{WellFormed}
use Rattle.vyrd_shape.specs.declared.phase.Phase.{Phase}
use Rattle.vyrd_shape.specs.Phases.{phase_of}
use Rattle.vyrd_shape.specs.Stamps.{CommitStamps, AreOrdered}
use Rattle.vyrd_shape.specs.Holding.{Holding, IsWordBelow}

-- the header, the phase of each caller, the holder of each plain word (a caller's number plus 1, or
-- 0 for nobody), the stamps of the callers' lone commits, and from version 2 on one of each plain
-- word
pub record ShapeKept : Type 0 where
  pub header : Header
  pub phases : List Phase
  pub holders : List ℕ
  pub commits : CommitStamps
  pub stamps : List ℕ

-- What is kept stands for these entries, given the newest first, and each of them keeps the rules.
-- Each caller's phase is its own, and a caller holds a word exactly when its open block has written
-- it, which is one caller at most. Stamps stand in the order of the log, and an entry takes one at
-- most.
pub record HasFollowed (kept : ShapeKept) (earlier : List Entry) : Type 0 where
  pub rules : WellFormed kept.header earlier
  pub phases : (c : ℕ) → c < kept.header.callers
      → slice_get kept.phases c ≡ Some (phase_of c earlier)
  pub holders : (c w : ℕ) → c < kept.header.callers → w < plain_words kept.header
      → holds_word c w earlier ≡ (slice_index kept.holders w == c + 1)
  pub callers : (w : ℕ) → slice_index kept.holders w ≤ kept.header.callers
  pub order : AreOrdered kept.header kept.commits kept.stamps earlier
  pub numbered : kept.commits.next ≤ length earlier + 1

-- there is a phase and a commit's stamp for each caller, a holder for each plain word, and from
-- version 2 on a stamp
pub record IsComplete (h : Header) (phases : List Phase) (holding : Holding)
    (commits : CommitStamps) (stamps : List ℕ) : Type 0 where
  pub enough_phases : length phases ≡ h.callers
  pub enough_callers : holding.callers ≡ h.callers
  pub enough_commits : length commits.by_caller ≡ h.callers
  pub enough_words : length holding.by_word ≡ plain_words h
  pub enough_stamps : (h.version == 1) ≡ false → length stamps ≡ plain_words h

-- the caller is one of the header's, and the word one of its plain words
pub record IsInRange (h : Header) (e : Entry) : Type 0 where
  pub caller : e.caller < h.callers
  pub word : IsWordBelow (plain_words h) e.kind
