-- What contracts see of the traced memory and of a hand.
use Rattle.std.specs.Prelude.{◌≡◌, ◌≢◌, ◌⊎◌, ℕ, ◌+◌, ◌-◌, ◌%◌, ◌<◌, ◌≤◌, List, [], ◌∷◌, ◌++◌}
use Rattle.std.specs.Prelude.{length, slice_index_or}
use Rattle.atomic_table.specs.Seated.{TableId}
use Rattle.vyrd_base.specs.declared.history.Did.{Did}
use Rattle.vyrd_base.specs.declared.history.Stamped.{Stamped}
use Rattle.vyrd_trace.specs.declared.plan.Plan.{Plan}
use Rattle.vyrd_trace.specs.declared.look.Look.{Look}
use Rattle.vyrd_trace.specs.Lanes.{stamp, HoldsBy}

-- the most events of a hand, and the most cells and locks of a memory
abbrev pub most_events : ℕ
most_events = 16777216

abbrev pub most_cells : ℕ
most_cells = 32768

-- a traced memory: which table it is, and its plan
pub record TracedView : Type 0 where
  pub table : TableId
  pub plan : Plan

abbrev pub sharing : TableId → Plan → TracedView
sharing table plan = record { table = table; plan = plan }

-- a hand: whose it is, the events so far, how many of them it no longer keeps, how many more it has
-- room for, and what it found at its last looks
pub record HandView : Type 0 where
  pub table : TableId
  pub caller : ℕ
  pub limit : ℕ
  pub spare : ℕ
  pub lane : List Stamped
  pub forgotten : ℕ
  pub look : Look

-- the table has one word for the next number and one for each cell, and keeps the limits
abbrev pub IsSized : Plan → TableId → Type 0
IsSized p t = (t.words ≡ 1 + (p.plain + p.locks)) × (p.plain + p.locks ≤ most_cells)
    × (1 ≤ p.callers) × (p.callers ≤ 64)
    × (p.limit ≤ most_events) × (t.slots ≡ 0)

-- a hand of this memory
abbrev pub IsOf : TracedView → HandView → Type 0
IsOf traced hand = (hand.table ≡ traced.table) × (hand.limit ≡ traced.plan.limit)

-- the hand holds this lock: of its own events at the lock the last one took it
abbrev pub Holds : HandView → ℕ → Type 0
Holds hand lock = HoldsBy hand.lane hand.caller lock

-- the hand as it was, except for the room
abbrev pub with_spare : HandView → ℕ → HandView
with_spare hand spare = record {
  table = hand.table;
  caller = hand.caller;
  limit = hand.limit;
  spare = spare;
  lane = hand.lane;
  forgotten = hand.forgotten;
  look = hand.look;
}

-- the hand as it was, except for what it found
abbrev pub with_look : HandView → Look → HandView
with_look hand look = record {
  table = hand.table;
  caller = hand.caller;
  limit = hand.limit;
  spare = hand.spare;
  lane = hand.lane;
  forgotten = hand.forgotten;
  look = look;
}

-- the hand with exactly this one event more, for which it used one of its spare room
abbrev pub with_one_more : HandView → ℕ → Did → Look → HandView
with_one_more hand number did look = record {
  table = hand.table;
  caller = hand.caller;
  limit = hand.limit;
  spare = hand.spare - 1;
  lane = hand.lane ++ stamp number hand.caller did ∷ [];
  forgotten = hand.forgotten;
  look = look;
}

-- the hand as it was, but that it no longer keeps this many of its lane's first events
abbrev pub with_forgotten : HandView → ℕ → HandView
with_forgotten hand forgotten = record {
  table = hand.table;
  caller = hand.caller;
  limit = hand.limit;
  spare = hand.spare;
  lane = hand.lane;
  forgotten = forgotten;
  look = hand.look;
}

-- The word was found at the cell since `before`: it is the last word found, and both it and the
-- first word found there were found at later looks than those that were made before.
abbrev pub WasFound : ℕ → ℕ → Look → Look → Type 0
WasFound cell word before after = (after.cell ≡ cell) × (after.last ≡ word)
    × (before.looks < after.first_at) × (before.looks < after.last_at)

-- another hand had claimed the cell, or changed it since the first look of this call
abbrev pub WasTaken : ℕ → Look → Type 0
WasTaken word look = (word % 2 ≡ 1) ⊎ (word ≢ look.first)

-- a new hand of this caller
abbrev pub IsNew : TracedView → ℕ → HandView → Type 0
IsNew traced caller hand =
    IsOf traced hand × (hand.caller ≡ caller) × (hand.spare ≡ 0) × (hand.lane ≡ [])
    × (hand.forgotten ≡ 0)

-- new hands in the order of their callers, from this one on
abbrev pub AreNew : TracedView → ℕ → List HandView → Type 0
AreNew traced first hands =
    (i : ℕ) (d : HandView) → i < length hands → IsNew traced (first + i) (slice_index_or hands i d)

-- all hands of the memory, in the order of their callers
abbrev pub AreAll : TracedView → List HandView → Type 0
AreAll traced hands = (length hands ≡ traced.plan.callers)
    × ((i : ℕ) (d : HandView) → i < length hands
    → IsOf traced (slice_index_or hands i d) × ((slice_index_or hands i d).caller ≡ i))
