-- Machines in the middle of a run by turns, with the plain memory and the history that they have so
-- far.
use Rattle.std.specs.Prelude.{◌≡◌, ℕ, zero, suc, ◌+◌, ◌<◌, ◌^◌, ◌==◌, List, [], ◌∷◌, ◌++◌, length}
use Rattle.std.specs.Prelude.{map, slice_get, slice_index, set, ⊤, Option, Some, None}
use Rattle.std.specs.Prelude.{if◌then◌else◌}
use Rattle.vyrd_base.specs.declared.header.Header.{Header}
use Rattle.vyrd_base.specs.declared.history.Did.{Did}
use Rattle.vyrd_base.specs.declared.history.Did.TheVariants.{Read, Wrote, Took, Gave, Marked}
use Rattle.vyrd_base.specs.declared.history.Stamped.{Stamped}
use Rattle.vyrd_base.specs.Places.{newest_first, numbers_below}
use Rattle.vyrd_base.specs.Layout.{plain_words, lock_words}
use Rattle.vyrd_base.specs.Histories.{value_in}
use Rattle.vyrd_memory.specs.declared.act.Act.{Act}
use Rattle.vyrd_memory.specs.declared.act.Act.TheVariants.{Load, Store, Take, Give, Mark, Done}
use Rattle.vyrd_memory.specs.Scripts.{Script, left_after}
use Rattle.vyrd_memory.specs.Turns.{script_of, part_of, after_turns}

-- the event of an act in this memory: none if there is no act, or if it takes a lock that is held
abbrev pub event_in : List ℕ → Act → Option Did
event_in words (Load cell) = Some (Read cell (slice_index words cell))
event_in words (Store cell value) = Some (Wrote cell value)
event_in words (Take lock) = if slice_index words lock == 0 then Some (Took lock) else None
event_in words (Give lock) = Some (Gave lock)
event_in words (Mark kind) = Some (Marked kind)
event_in words Done = None

-- the memory after an event of the caller
abbrev pub words_with : List ℕ → ℕ → Did → List ℕ
words_with words c (Read cell value) = words
words_with words c (Wrote cell value) = set words cell value
words_with words c (Took lock) = set words lock (c + 1)
words_with words c (Gave lock) = set words lock 0
words_with words c (Marked kind) = words

-- the memory after an event, if there was one
abbrev pub words_after_event : List ℕ → ℕ → Option Did → List ℕ
words_after_event words c None = words
words_after_event words c (Some did) = words_with words c did

-- whether an act keeps to a memory of n cells, and stores a value below 2^63
abbrev pub IsWithin : ℕ → Act → Type 0
IsWithin n (Load cell) = cell < n
IsWithin n (Store cell value) = (cell < n) × (value < 2 ^ 63)
IsWithin n (Take lock) = lock < n
IsWithin n (Give lock) = lock < n
IsWithin n (Mark kind) = ⊤
IsWithin n Done = ⊤

-- the words of a memory after a history, plain words and then locks
abbrev pub memory_after : Header → List Stamped → List ℕ
memory_after h earlier = map (value_in earlier) (numbers_below (plain_words h + lock_words h))

-- Each machine was made for the header, and the words are its plain words and locks, each below
-- 2^63.
pub record IsReady {M : Type 0} (h : Header) (header_of : M → Header) (machines : List M)
    (words : List ℕ) : Type 0 where
  pub made : (i : ℕ) (m : M) → slice_get machines i ≡ Some m → header_of m ≡ h
  pub room : length words ≡ plain_words h + lock_words h
  pub small : (cell : ℕ) → slice_index words cell < 2 ^ 63

-- Each machine is where its script is after its events, and the words are those that the history
-- leaves.
pub record IsPlaying {M : Type 0} (h : Header) (script : M → Script) (scripts : List Script)
    (machines : List M) (words : List ℕ) (history : List Stamped) : Type 0 where
  pub count : length machines ≡ length scripts
  pub left : (i : ℕ) (m : M) → slice_get machines i ≡ Some m
      → script m ≡ left_after (script_of scripts i) (part_of i (newest_first history))
  pub words_are : words ≡ memory_after h (newest_first history)

-- how many events the machines have before them at most
abbrev pub total : {M : Type 0} → (M → ℕ) → List M → ℕ
total ahead [] = 0
total ahead (m ∷ machines) = ahead m + total ahead machines

-- the machines, the memory and the history at one moment
pub record Scene (M : Type 0) : Type 0 where
  pub machines : List M
  pub words : List ℕ
  pub history : List Stamped

abbrev pub scene : {M : Type 0} → List M → List ℕ → List Stamped → Scene M
scene machines words history = record { machines = machines; words = words; history = history }

-- between two moments these callers have had their turns, one after the other
pub record HasPlayed {M : Type 0} (h : Header) (header_of : M → Header) (script : M → Script)
    (callers : List ℕ) (before now : Scene M) : Type 0 where
  pub ready : IsReady h header_of now.machines now.words
  pub count : length now.machines ≡ length before.machines
  pub plays : (scripts : List Script)
      → IsPlaying h script scripts before.machines before.words before.history
      → IsPlaying h script scripts now.machines now.words now.history
  pub history : (scripts : List Script)
      → IsPlaying h script scripts before.machines before.words before.history
      → newest_first now.history ≡ after_turns scripts callers (newest_first before.history)

-- this many rounds over n callers
abbrev pub rounds_over : ℕ → ℕ → List ℕ
rounds_over n zero = []
rounds_over n (suc rounds) = numbers_below n ++ rounds_over n rounds

-- some rounds have been played, and in another there would be no event
pub record HaveComeToRest {M : Type 0} (h : Header) (header_of : M → Header) (script : M → Script)
    (before now : Scene M) : Type 0 where
  pub rounds : ℕ
  pub played : HasPlayed h header_of script (rounds_over (length before.machines) rounds) before now
  pub still : (scripts : List Script)
      → IsPlaying h script scripts before.machines before.words before.history
      → after_turns scripts (numbers_below (length before.machines)) (newest_first now.history)
      ≡ newest_first now.history
