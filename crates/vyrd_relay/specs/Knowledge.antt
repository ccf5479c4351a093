-- What the passes of a relay know, and what each step tells them.
use Rattle.std.specs.Prelude.{◌≡◌, ℕ, ◌+◌, ◌<◌, ⊤, List, [], ◌∷◌, ◌++◌}
use Rattle.std.specs.List.{All}
use Rattle.vyrd_base.specs.declared.history.Stamped.{Stamped}
use Rattle.vyrd_relay.specs.declared.known.Known.{Known}
use Rattle.vyrd_relay.specs.declared.known.Known.TheVariants.{Receives, Sends, Spent}
use Rattle.vyrd_relay.specs.declared.known.Lane.{Lane}
use Rattle.vyrd_relay.specs.declared.known.Received.{Received}
use Rattle.vyrd_relay.specs.declared.known.Sent.{Sent}
use Rattle.vyrd_base.specs.Parts.{part}
use Rattle.vyrd_relay.specs.Lanes.{Begins, EndsWith, events_in}

-- a sender that has sent nothing
abbrev pub new_sent : ℕ → ℕ → Sent
new_sent senders caller = record { senders = senders; caller = caller; items = [] }

-- a sender that has sent these events more
abbrev pub with_sent : Sent → List Stamped → Sent
with_sent s events = record { senders = s.senders; caller = s.caller; items = s.items ++ events }

-- a receiver that has had nothing, for which that many senders were made
abbrev pub new_received : ℕ → ℕ → Received
new_received senders made = record { senders = senders; made = made; had = []; settled = [] }

-- a receiver that has had these events more
abbrev pub with_had : Received → List Stamped → Received
with_had r events =
    record { senders = r.senders; made = r.made; had = r.had ++ events; settled = r.settled }

abbrev pub lane_of : Sent → Lane
lane_of s = record { caller = s.caller; items = s.items }

-- a receiver that has taken in a sender
abbrev pub with_settled : Received → Sent → Received
with_settled r s = record {
  senders = r.senders;
  made = r.made;
  had = r.had;
  settled = r.settled ++ lane_of s ∷ [];
}

-- What a pass knows as a receiver, and as a sender. A pass that is neither knows nothing.
abbrev pub received_in : Known → Received
received_in (Receives r) = r
received_in (Sends s) = new_received 0 0
received_in Spent = new_received 0 0

abbrev pub sent_in : Known → Sent
sent_in (Receives r) = new_sent 0 0
sent_in (Sends s) = s
sent_in Spent = new_sent 0 0

-- What was had of the lane's caller is a beginning of what it sent.
abbrev pub HasBeginning : List Stamped → Lane → Type 0
HasBeginning had lane = Begins (part lane.caller had) lane.items

-- What was had of the lane's caller, and then what is queued of it, is what it sent.
abbrev pub IsHadAndQueued : List Stamped → List Stamped → Lane → Type 0
IsHadAndQueued had queued lane = lane.items ≡ part lane.caller had ++ part lane.caller queued

-- what the receiver learns of the queued events, and that all it had is of the relay's senders
pub record ReceiverLearns (r : Received) (queued : List Stamped) : Type 0 where
  pub settled : All (IsHadAndQueued r.had queued) r.settled
  pub senders : All (λ (e : Stamped). e.caller < r.senders) r.had

-- what a sender learns of the queued events: those of its own are the last that it sent, and all
-- are of the relay's senders
pub record SenderLearns (s : Sent) (queued : List Stamped) : Type 0 where
  pub own : EndsWith s.items (part s.caller queued)
  pub senders : All (λ (e : Stamped). e.caller < s.senders) queued

-- what a pass learns of the queued parcels
abbrev pub Learned : Known → List (List Stamped) → Type 0
Learned (Receives r) queued = ReceiverLearns r (events_in queued)
Learned (Sends s) queued = SenderLearns s (events_in queued)
Learned Spent queued = ⊤

-- a push: the sender has sent these events too
abbrev pub Pushed : Known → List Stamped → Known → Type 0
Pushed before events after = after ≡ Sends (with_sent (sent_in before) events)

-- A pop: the receiver has had these events too, they are of the senders, and what was had of each
-- sender that was taken in is still a beginning of what that one sent.
pub record Popped (before : Known) (events : List Stamped) (after : Known) : Type 0 where
  pub had : after ≡ Receives (with_had (received_in before) events)
  pub senders : All (λ (e : Stamped). e.caller < (received_in before).senders) events
  pub beginnings : All (HasBeginning ((received_in before).had ++ events))
      (received_in before).settled

-- The receiver's pass when it has made one sender more, and the pass of that sender. `senders` is
-- how many there will be.
abbrev pub dealer : ℕ → Known → Known
dealer senders v =
    let r : Received = received_in v in
    Receives (record { senders = senders; made = r.made + 1; had = r.had; settled = r.settled })

abbrev pub dealt : ℕ → Known → Known
dealt senders v = Sends (new_sent senders (received_in v).made)

-- the receiver's pass when it has taken in a sender's
abbrev pub taking_in : Known → Known → Known
taking_in v w = Receives (with_settled (received_in v) (sent_in w))
