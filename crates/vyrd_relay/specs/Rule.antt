-- The rule of the relay: what the receiver has had of a sender, and then what is queued of it, is
-- what it sent.
use Rattle.std.specs.Prelude.{◌≡◌, ℕ, ◌<◌, ◌≤◌, ⊤, List, [], ◌++◌, Option, Some, None}
use Rattle.std.specs.List.{All}
use mathlib.Core.Option.{some}
use lib.ListN.{get_elem?}
use Rattle.vyrd_base.specs.declared.history.Stamped.{Stamped}
use Rattle.vyrd_relay.specs.declared.known.Known.{Known}
use Rattle.vyrd_relay.specs.declared.known.Known.TheVariants.{Receives, Sends, Spent}
use Rattle.vyrd_relay.specs.declared.known.Lane.{Lane}
use Rattle.vyrd_relay.specs.declared.known.Received.{Received}
use Rattle.vyrd_relay.specs.declared.known.Sent.{Sent}
use Rattle.vyrd_base.specs.Parts.{part}
use Rattle.vyrd_relay.specs.Lanes.{events_in}

-- What exists in the proofs alone: how many senders there are, the receiver's pass, for each caller
-- the pass that sends for it and what it sent, and all that was had.
pub record Ghost : Type 0 where
  pub senders : ℕ
  pub reader : ℕ
  pub seat : ℕ → Option ℕ
  pub sent : ℕ → List Stamped
  pub had : List Stamped

-- a lane that was taken in: it is what its caller sent, and no pass sends for that caller any more
pub record IsSettled (g : Ghost) (made : ℕ) (lane : Lane) : Type 0 where
  pub unseated : g.seat lane.caller ≡ None
  pub whole : g.sent lane.caller ≡ lane.items
  pub old : lane.caller < made

-- What the receiver's pass knows: what was had, that callers without a sender so far have sent
-- nothing, and the lanes of those that it has taken in. The number of senders is fixed when the
-- first is made.
pub record ReceiverKnows (g : Ghost) (pass : ℕ) (r : Received) : Type 0 where
  pub reader : g.reader ≡ pass
  pub had : g.had ≡ r.had
  pub senders : 0 < r.made → g.senders ≡ r.senders
  pub unmade : (c : ℕ) → r.made ≤ c → (g.seat c ≡ None) × (g.sent c ≡ [])
  pub settled : All (IsSettled g r.made) r.settled

-- what a sender's pass knows: it alone sends for its caller, and what it sent
pub record SenderKnows (g : Ghost) (pass : ℕ) (s : Sent) : Type 0 where
  pub seated : g.seat s.caller ≡ Some pass
  pub whole : g.sent s.caller ≡ s.items
  pub senders : g.senders ≡ s.senders
  pub in_range : s.caller < s.senders

abbrev pub Knows : Ghost → ℕ → Known → Type 0
Knows g pass (Receives r) = ReceiverKnows g pass r
Knows g pass (Sends s) = SenderKnows g pass s
Knows g pass Spent = ⊤

pub record Relayed (queued : List (List Stamped)) (passes : List Known) : Type 0 where
  pub ghost_state : Ghost
  pub order : (c : ℕ) → part c (ghost_state.had ++ events_in queued) ≡ ghost_state.sent c
  pub outside : (c : ℕ) → ghost_state.senders ≤ c → ghost_state.sent c ≡ []
  pub each : (pass : ℕ) (v : Known) → get_elem? passes pass ≡ some v → Knows ghost_state pass v
