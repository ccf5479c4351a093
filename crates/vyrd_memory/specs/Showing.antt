-- Machines in the middle of a run by turns, with the plain memory that they have so far and the
-- sink that takes their events.
use Rattle.std.specs.Prelude.{◌≡◌, ℕ, List, length}
use Rattle.vyrd_base.specs.declared.header.Header.{Header}
use Rattle.vyrd_base.specs.declared.history.Stamped.{Stamped}
use Rattle.vyrd_base.specs.Places.{newest_first}
use Rattle.vyrd_memory.specs.declared.op.Turn.{Turn}
use Rattle.vyrd_memory.specs.Scripts.{Script}
use Rattle.vyrd_memory.specs.Turns.{RunsTo}
use Rattle.vyrd_memory.specs.Playing.{IsReady, HasPlayed, HaveComeToRest, scene, memory_after}

-- the machines, the memory and the sink at one moment
pub record Stage (M S : Type 0) : Type 0 where
  pub machines : List M
  pub words : List ℕ
  pub sink : S

abbrev pub stage : {M S : Type 0} → List M → List ℕ → S → Stage M S
stage machines words sink = record { machines = machines; words = words; sink = sink }

-- between two moments, the first of them after this history, these callers have had their turns,
-- and the sink has taken their events
pub record IsShown {M S : Type 0} (h : Header) (header_of : M → Header) (script : M → Script)
    (has_taken : S → List Stamped → Type 0) (callers : List ℕ) (before now : Stage M S)
    (history : List Stamped) : Type 0 where
  pub later : List Stamped
  pub taken : has_taken now.sink later
  pub played : HasPlayed h header_of script callers
      (scene before.machines before.words history) (scene now.machines now.words later)

-- the same after whatever history the sink had taken
pub record HasShown {M S : Type 0} (h : Header) (header_of : M → Header) (script : M → Script)
    (has_taken : S → List Stamped → Type 0) (callers : List ℕ)
    (before now : Stage M S) : Type 0 where
  pub ready : IsReady h header_of now.machines now.words
  pub count : length now.machines ≡ length before.machines
  pub shown : (history : List Stamped) → has_taken before.sink history
      → IsShown h header_of script has_taken callers before now history

-- some rounds have been played after this history, and in another there would be no event
pub record ComesToRest {M S : Type 0} (h : Header) (header_of : M → Header) (script : M → Script)
    (has_taken : S → List Stamped → Type 0) (before now : Stage M S)
    (history : List Stamped) : Type 0 where
  pub later : List Stamped
  pub taken : has_taken now.sink later
  pub rest : HaveComeToRest h header_of script
      (scene before.machines before.words history) (scene now.machines now.words later)

-- the run by turns ends: the sink has taken its history, and these are the words at its end
pub record HasRun {S : Type 0} (scripts : List Script) (turns : List Turn) (h : Header)
    (has_taken : S → List Stamped → Type 0) (sink : S) (words : List ℕ) : Type 0 where
  pub history : List Stamped
  pub taken : has_taken sink history
  pub runs : RunsTo scripts turns history
  pub words_are : words ≡ memory_after h (newest_first history)
