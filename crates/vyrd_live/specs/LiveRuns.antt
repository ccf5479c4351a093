-- What a live run leaves: a legal history in which each caller's part plays the caller's script, to
-- its end or to an operation that has no room.
use Rattle.std.specs.Prelude.{◌≡◌, ◌⊎◌, ℕ, ◌<◌, ⊤, true, List, Option, Some, None}
use Rattle.vyrd_base.specs.declared.header.Header.{Header}
use Rattle.vyrd_base.specs.declared.history.Did.{Did}
use Rattle.vyrd_base.specs.declared.history.Stamped.{Stamped}
use Rattle.vyrd_base.specs.Places.{newest_first}
use Rattle.vyrd_base.specs.Histories.{cells_of, is_legal}
use Rattle.vyrd_memory.specs.Scripts.{Script, PlaysToTheEnd}
use Rattle.vyrd_memory.specs.Turns.{part_of, script_of}
use Rattle.vyrd_memory.specs.Playing.{memory_after}
use Rattle.vyrd_memory.specs.Bounds.{bounds_of}
use Rattle.vyrd_memory.specs.Runs.{PlayToTheEnd}
use Rattle.vyrd_work.specs.Workloads.{Workload}
use Rattle.vyrd_work.specs.WorkScripts.{ops_of}
use Rattle.vyrd_live.specs.declared.run.LiveFault.{LiveFault}
use Rattle.vyrd_live.specs.declared.run.LiveFault.TheVariants as fault
use Rattle.vyrd_live.specs.Rooms.{HadRoom, StopsForRoom}

-- what a caller did in a history, the newest event first
abbrev pub done_by : ℕ → List Stamped → List Did
done_by c history = part_of c (newest_first history)

-- each operation of each caller began with room
abbrev pub AllHadRoom : Header → ℕ → List Stamped → Type 0
AllHadRoom h limit history = (c : ℕ) → HadRoom h limit (done_by c history)

-- A run that the limit ended. Each caller either played its script to the end or stopped before an
-- operation that had no room, and of those that stopped so the named caller is the least.
pub record IsOverrun (h : Header) (limit : ℕ) (scripts : List Script) (caller : ℕ)
    (history : List Stamped) : Type 0 where
  pub each : (c : ℕ)
      → PlaysToTheEnd (script_of scripts c) (done_by c history)
      ⊎ StopsForRoom h limit (script_of scripts c) (done_by c history)
  pub in_range : caller < h.callers
  pub stopped : StopsForRoom h limit (script_of scripts caller) (done_by caller history)
  pub first : (c : ℕ) → c < caller → PlaysToTheEnd (script_of scripts c) (done_by c history)

-- how the callers of these scripts have played: all to the end, or until the limit ended the run at
-- this caller
abbrev pub HavePlayed : Header → ℕ → List Script → List Stamped → Option ℕ → Type 0
HavePlayed h limit scripts history None = PlayToTheEnd scripts history × AllHadRoom h limit history
HavePlayed h limit scripts history (Some caller) = IsOverrun h limit scripts caller history

-- What a live run of these scripts leaves: there is one legal history, which the sink has taken,
-- and these are the words at its end.
pub record LeavesRun {S : Type 0} (h : Header) (limit : ℕ) (scripts : List Script)
    (has_taken : S → List Stamped → Type 0) (sink : S) (words : List ℕ)
    (spent : Option ℕ) : Type 0 where
  pub history : List Stamped
  pub taken : has_taken sink history
  pub legal : is_legal (cells_of h) history ≡ true
  pub played : HavePlayed h limit scripts history spent
  pub words_are : words ≡ memory_after h (newest_first history)

-- Why a live run has no verdict: the limit ended it, and then its history is legal, or there was no
-- memory.
abbrev pub IsCause : Header → ℕ → List Script → LiveFault → Type 0
IsCause h limit scripts (fault.Spent overrun) = (is_legal (cells_of h) overrun.history.items ≡ true)
    × IsOverrun h limit scripts overrun.caller overrun.history.items
IsCause h limit scripts fault.Memory = ⊤

-- the limit that ended a run allows fewer events than the operations of the named caller may have
abbrev pub IsTooLow : Workload → ℕ → LiveFault → Type 0
IsTooLow w limit (fault.Spent overrun) = limit < bounds_of w.header (ops_of overrun.caller w.ops)
IsTooLow w limit fault.Memory = ⊤
