-- What each atomic step tells the seat that makes it, and what it asks.
use Rattle.std.specs.Prelude.{◌≡◌, ◌≢◌, ℕ, ◌+◌, ◌-◌, ◌/◌, ◌*◌, ◌^◌, ◌<◌, ◌≤◌, false}
use Rattle.atomic_table.specs.Table.{Me, Step}
use Rattle.atomic_table.specs.declared.shared.Seat.{Seat}
use Rattle.vyrd_base.specs.declared.history.Did.{Did}
use Rattle.vyrd_base.specs.declared.history.Did.TheVariants.{Read, Wrote, Took, Gave, Marked}
use Rattle.vyrd_base.specs.Histories.{is_write}
use Rattle.vyrd_trace.specs.declared.plan.Plan.{Plan}
use Rattle.vyrd_trace.specs.declared.look.Look.{Look}
use Rattle.vyrd_trace.specs.declared.record.Record.{Record}
use Rattle.vyrd_trace.specs.declared.record.Stage.{Stage}
use Rattle.vyrd_trace.specs.declared.record.Stage.TheVariants.{Rest, Claimed, Drawn, Giving}
use Rattle.vyrd_trace.specs.Lanes.{AreBelow, HoldsBy}
use Rattle.vyrd_trace.specs.Records.{look_first, look_again, acting, before_of, with_event}

-- a seat's record. Slots aren't used
abbrev pub Sitting : Type 0
Sitting = Me (Unit {0}) Record

-- the same seat of the same table
abbrev pub IsSame : Seat (Unit {0}) Record → Seat (Unit {0}) Record → Type 0
IsSame a b = (b.table_id ≡ a.table_id) × (b.id ≡ a.id)

-- A look: word i + 1 of the table is cell i, and the word found is r.
abbrev pub looked : Step (Unit {0}) → Sitting → ℕ → Sitting → Type 0
looked step m r m' = m' ≡ (acting m.0 m.0.stage (look_first m.0.look (step.word - 1) r), m.1)

-- A try of a claim: if the word found is the expected one, the cell is claimed. `next` makes the
-- looks.
module _ (next : Look → ℕ → ℕ → Look) where
  abbrev pub tried : Step (Unit {0}) → Sitting → ℕ → Sitting → Type 0
  tried step m r m' =
      (r ≡ step.first
      → m' ≡ (
        acting m.0 (Claimed (step.word - 1) (step.first / 2)) (next m.0.look (step.word - 1) r),
        m.1,
      ))
      × (r ≢ step.first → m' ≡ (acting m.0 m.0.stage (next m.0.look (step.word - 1) r), m.1))

abbrev pub tried_again : Step (Unit {0}) → Sitting → ℕ → Sitting → Type 0
tried_again = tried look_again

abbrev pub tried_first : Step (Unit {0}) → Sitting → ℕ → Sitting → Type 0
tried_first = tried look_first

-- A draw: the number found is the event's, and is above every number of the lane.
abbrev pub drew : Did → Step (Unit {0}) → Sitting → ℕ → Sitting → Type 0
drew did step m r m' = (m' ≡ (with_event m.0 r did, m.1)) × AreBelow r m.0.lane

-- A publish: the action in hand ends.
abbrev pub published : Step (Unit {0}) → Sitting → ℕ → Sitting → Type 0
published step m r m' = m' ≡ (acting m.0 Rest m.0.look, m.1)

-- what a draw asks: the cell is claimed with the value read, or claimed, or for a give the lock is
-- held
abbrev pub MayDraw : Plan → Record → Did → Type 0
MayDraw p v (Read cell value) = (cell < p.plain) × (v.stage ≡ Claimed cell value)
MayDraw p v (Wrote cell value) =
    (cell < p.plain) × (value < 2 ^ 63) × (v.stage ≡ Claimed cell (before_of v.stage))
MayDraw p v (Took cell) = (p.plain ≤ cell) × (cell < p.plain + p.locks) × (v.stage ≡ Claimed cell 0)
MayDraw p v (Gave cell) =
    (p.plain ≤ cell) × (cell < p.plain + p.locks) × (v.stage ≡ Rest) × HoldsBy v.lane v.caller cell
MayDraw p v (Marked kind) = is_write kind ≡ false

-- what a publish asks: the number is drawn, and the word is twice the new value
abbrev pub Ends : Stage → ℕ → ℕ → Type 0
Ends Rest cell word = ⊥
Ends (Claimed c before) cell word = ⊥
Ends (Drawn c before after) cell word = (c ≡ cell) × (word ≡ 2 * after)
Ends (Giving c) cell word = (c ≡ cell) × (word ≡ 0)
