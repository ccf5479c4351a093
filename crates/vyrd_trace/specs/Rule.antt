-- The rule of the trace: there is one legal history, which each record and each word fits.
use Rattle.std.specs.Prelude.{◌≡◌, ◌≢◌, ℕ, ◌+◌, ◌*◌, ◌<◌, ◌≤◌, List, [], length, slice_index}
use Rattle.std.specs.Prelude.{slice_get, true, Option, Some, None}
use mathlib.Core.Option.{some}
use lib.ListN.{get_elem?}
use Rattle.atomic_table.specs.Table.{State}
use Rattle.vyrd_base.specs.declared.history.Stamped.{Stamped}
use Rattle.vyrd_base.specs.Histories.{is_legal}
use Rattle.vyrd_trace.specs.declared.plan.Plan.{Plan}
use Rattle.vyrd_trace.specs.declared.record.Record.{Record}
use Rattle.vyrd_trace.specs.declared.record.Lane.{Lane}
use Rattle.vyrd_trace.specs.declared.record.Stage.{Stage}
use Rattle.vyrd_trace.specs.declared.record.Stage.TheVariants.{Rest, Claimed, Drawn, Giving}
use Rattle.vyrd_base.specs.Parts.{part}
use Rattle.vyrd_trace.specs.Lanes.{last_value, cells_in}

-- What exists in the proofs alone: the history, and for each caller the seat that has its lane and
-- its action in hand; for each cell the caller that has it in hand.
pub record Ghost : Type 0 where
  pub history : List Stamped
  pub owner : ℕ → Option ℕ
  pub stage : ℕ → Stage
  pub claimer : ℕ → Option ℕ

-- the action in hand is at this cell
abbrev pub IsAt : Stage → ℕ → Type 0
IsAt Rest k = ⊥
IsAt (Claimed cell before) k = cell ≡ k
IsAt (Drawn cell before after) k = cell ≡ k
IsAt (Giving cell) k = cell ≡ k

-- The word of cell k, and its value in the history, while a caller has it in hand. `plain` is the
-- number of plain cells. The word is twice the value before, plus 1, until the action ends; the
-- value is the new one from the draw on. A give is drawn with no claim, so there the word is still
-- the holder's.
abbrev pub InHand : ℕ → ℕ → ℕ → ℕ → ℕ → Stage → Type 0
InHand plain caller k word now Rest = ⊥
InHand plain caller k word now (Claimed cell before) =
    (cell ≡ k) × (word ≡ 2 * before + 1) × (now ≡ before) × (plain ≤ k → before ≡ 0)
InHand plain caller k word now (Drawn cell before after) =
    (cell ≡ k) × (word ≡ 2 * before + 1) × (now ≡ after) × (plain ≤ k → after ≡ caller + 1)
InHand plain caller k word now (Giving cell) =
    (cell ≡ k) × (plain ≤ k) × (word ≡ 2 * (caller + 1)) × (now ≡ 0)

-- The word of a cell fits its value: twice the value, unless a caller has the cell in hand.
abbrev pub FitsCell : ℕ → (ℕ → Stage) → ℕ → ℕ → ℕ → Option ℕ → Type 0
FitsCell plain stage k word now None = word ≡ 2 * now
FitsCell plain stage k word now (Some caller) = InHand plain caller k word now (stage caller)

-- the seat has the whole lane of this caller, which is at rest
pub record HasLane (g : Ghost) (seat : ℕ) (l : Lane) : Type 0 where
  pub owned : g.owner l.caller ≡ Some seat
  pub whole : part l.caller g.history ≡ l.events
  pub rests : g.stage l.caller ≡ Rest

-- What a record that isn't spent knows: its own lane is whole and the action in hand is its own,
-- the gathered lanes are whole and other callers', and while it is caller 0's the callers from
-- `next` on have no record yet.
pub record Knows (callers : ℕ) (g : Ghost) (seat : ℕ) (v : Record) : Type 0 where
  pub owned : g.owner v.caller ≡ Some seat
  pub whole : part v.caller g.history ≡ v.lane
  pub at_stage : g.stage v.caller ≡ v.stage
  pub in_range : v.caller < callers
  pub others : (i : ℕ) (l : Lane) → slice_get v.gathered i ≡ Some l → HasLane g seat l
  pub apart : (i : ℕ) (l : Lane) → slice_get v.gathered i ≡ Some l → l.caller ≢ v.caller
  pub unmade : v.caller ≡ 0 → (c : ℕ) → v.next ≤ c → g.owner c ≡ None

-- The rule: the history is legal, as long as word 0 says, and no caller's part is over the limit;
-- an action in hand has its cell alone; each cell's word fits; a caller without a record has done
-- nothing; and each record knows its own.
pub record TraceKept (p : Plan) (s : State (Unit {0}) Record) : Type 0 where
  pub ghost_state : Ghost
  pub wide : length s.words ≡ 1 + (p.plain + p.locks)
  pub counted : slice_index s.words 0 ≡ length ghost_state.history
  pub legal : is_legal (cells_in p) ghost_state.history ≡ true
  pub short : (c : ℕ) → length (part c ghost_state.history) ≤ p.limit
  pub claims : (caller k : ℕ) → IsAt (ghost_state.stage caller) k
      → ghost_state.claimer k ≡ Some caller
  pub cells : (k : ℕ) → k < p.plain + p.locks
      → FitsCell p.plain ghost_state.stage k (slice_index s.words (k + 1))
      (last_value ghost_state.history k) (ghost_state.claimer k)
  pub idle : (c : ℕ) → ghost_state.owner c ≡ None
      → (part c ghost_state.history ≡ []) × (ghost_state.stage c ≡ Rest)
  pub outside : (c : ℕ) → p.callers ≤ c → ghost_state.owner c ≡ None
  pub seats : (j : ℕ) (v : Record) → get_elem? s.views j ≡ some v → v.live ≡ true
      → Knows p.callers ghost_state j v
