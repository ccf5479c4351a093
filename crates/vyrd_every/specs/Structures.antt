-- What a structure is to the proof: which lock guards which word, which state of the specification
-- a memory represents, and what a caller may reserve beyond its locks. Nothing else of a structure
-- is known to the proof about schedules. A state is told by the amounts that it shows, since the
-- states of built-in structures hide nothing.
--
-- The memory is the one that the log shows. It has the writes that took effect, and not those of
-- blocks that are still open. So it is what the judge rebuilds, and it represents a state between
-- any two events, also while somebody is in the middle of a block.
use Rattle.std.specs.Prelude.{◌≡◌, ℕ, ◌<◌, true, List, []}
use Rattle.vyrd_base.specs.declared.header.Header.{Header}
use Rattle.vyrd_base.specs.declared.log.Entry.{Entry}
use Rattle.vyrd_base.specs.Layout.{plain_words}
use Rattle.vyrd_base.specs.Amounts.{Amounts}
use Rattle.vyrd_base.specs.Specification.{start}
use Rattle.vyrd_base.specs.BlockEnds.{ended_effects, ended_value, ended_words}
use Rattle.vyrd_base.specs.Views.{view_of_words}
use Rattle.vyrd_base.specs.Histories.{cells_of, is_lock}
use Rattle.vyrd_memory.specs.Alone.{Memory}

-- the memory that a log shows; the newest entry stands first
abbrev pub shown_by : List Entry → Memory
shown_by log = λ w. ended_value (ended_effects log) w

-- a structure of a header
pub record Structure : Type 1 where
  pub header : Header
  -- the words with numbers below this one are guarded, each by its lock
  pub words : ℕ
  pub guard : ℕ → ℕ
  -- the memory represents the state
  pub Represents : Memory → Amounts → Type 0
  -- Slots are what a caller may reserve: the others then leave its words alone, though nobody holds
  -- its lock. The memory shows which slots are free and which are reserved, and two memories may be
  -- the same at the words of a slot.
  pub Free : Memory → ℕ → Type 0
  pub Reserved : Memory → ℕ → Type 0
  pub Same : Memory → Memory → ℕ → Type 0
  -- what has to hold of the three: being the same goes on, a reserved slot that stays the same
  -- stays reserved, and none is free and reserved at once
  pub same : (a : Memory) (slot : ℕ) → Same a a slot
  pub same_more : (a b c : Memory) (slot : ℕ) → Same a b slot → Same b c slot → Same a c slot
  pub stays : (a b : Memory) (slot : ℕ) → Same a b slot → Reserved a slot → Reserved b slot
  pub apart : (a : Memory) (slot : ℕ) → Free a slot → Reserved a slot → ⊥

-- The structure fits its header: its logs are of version 1, guarded words are plain, their guards
-- are locks, the memory of no entries represents the first state, and where the memory that a log
-- shows represents a state, that state is the view of the words.
pub record Fits (S : Structure) : Type 0 where
  pub version : S.header.version ≡ 1
  pub plain : (cell : ℕ) → cell < S.words → cell < plain_words S.header
  pub locks : (cell : ℕ) → cell < S.words → is_lock (cells_of S.header) (S.guard cell) ≡ true
  pub begins : S.Represents (shown_by []) start.shown
  pub view : (log : List Entry) (state : Amounts) → S.Represents (shown_by log) state
      → view_of_words S.header (ended_words S.header log) ≡ state
