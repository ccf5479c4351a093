-- What is left once all hands have ended: one history, and its last values.
use Rattle.std.specs.Prelude.{◌≡◌, ℕ, ◌+◌, ◌*◌, ◌<◌, List, [], map, length, slice_get, slice_index}
use Rattle.std.specs.Prelude.{slice_index_or, Some, true}
use Rattle.std.specs.List.{All}
use Rattle.vyrd_base.specs.declared.history.Stamped.{Stamped}
use Rattle.vyrd_trace.specs.declared.plan.Plan.{Plan}
use Rattle.vyrd_trace.specs.declared.record.Lane.{Lane}
use Rattle.vyrd_base.specs.Histories.{is_legal}
use Rattle.vyrd_base.specs.Parts.{part}
use Rattle.vyrd_trace.specs.Lanes.{cells_in, last_value, last_values}
use Rattle.vyrd_trace.specs.Hands.{HandView}

abbrev pub lanes_of : List HandView → List (List Stamped)
lanes_of hands = map (λ (hand : HandView). hand.lane) hands

abbrev pub own_lane_of : HandView → Lane
own_lane_of hand = record { caller = hand.caller; events = hand.lane }

abbrev pub own_lanes : List HandView → List Lane
own_lanes hands = map own_lane_of hands

-- the event at place i has the number i, and the lane at place c is the part of caller c
pub record IsMerge (history : List Stamped) (lanes : List (List Stamped)) : Type 0 where
  pub placed : (i : ℕ) (e : Stamped) → slice_get history i ≡ Some e
      → (e.number ≡ i) × (e.caller < length lanes)
  pub parts : (c : ℕ) → c < length lanes → part c history ≡ slice_index_or lanes c []

-- each cell's word is twice its value
abbrev pub AreTwice : Plan → List Stamped → List ℕ → Type 0
AreTwice plan history words =
    (k : ℕ) → k < plan.plain + plan.locks → slice_index words (k + 1) ≡ 2 * last_value history k

-- There is one legal history of all that the hands have done: each hand's lane is its caller's part
-- of it, and these words are its last values.
pub record HasHistory (plan : Plan) (hands : List HandView) (words : List ℕ) : Type 0 where
  pub history : List Stamped
  pub legal : is_legal (cells_in plan) history ≡ true
  pub parts : All (λ (hand : HandView). part hand.caller history ≡ hand.lane) hands
  pub words_are : words ≡ last_values plan history
