-- What contracts see of a relay and of its ends.
use Rattle.std.specs.Prelude.{◌≡◌, ℕ, ◌+◌, ◌<◌, List, [], ◌∷◌, ◌++◌, length, slice_index_or}
use Rattle.std.specs.List.{All}
use Rattle.atomic_table.specs.Seated.{TableId}
use Rattle.crossbeam_queue.specs.Passes.{Pass, view}
use Rattle.vyrd_base.specs.declared.history.Stamped.{Stamped}
use Rattle.vyrd_relay.specs.declared.known.Known.{Known}
use Rattle.vyrd_relay.specs.declared.known.Lane.{Lane}
use Rattle.vyrd_base.specs.Parts.{part}
use Rattle.vyrd_relay.specs.Lanes.{EndsWith, events_in}
use Rattle.vyrd_relay.specs.Knowledge.{received_in, sent_in, IsHadAndQueued}

-- a relay: which queue it is, and how many parcels that holds at most
pub record RelayView : Type 0 where
  pub queue : TableId
  pub capacity : ℕ

-- an end that sends: for which caller, and all that it sent
pub record SenderView : Type 0 where
  pub queue : TableId
  pub senders : ℕ
  pub caller : ℕ
  pub sent : List Stamped

-- the end that receives: all that it had, and what the senders that it has taken in sent
pub record ReceiverView : Type 0 where
  pub queue : TableId
  pub senders : ℕ
  pub had : List Stamped
  pub settled : List Lane

-- what a pass knows
abbrev pub knowledge : Pass (List Stamped) Known → Known
knowledge pass = view pass

abbrev pub sender_of : TableId → Known → SenderView
sender_of queue k = record {
  queue = queue;
  senders = (sent_in k).senders;
  caller = (sent_in k).caller;
  sent = (sent_in k).items;
}

abbrev pub receiver_of : TableId → Known → ReceiverView
receiver_of queue k = record {
  queue = queue;
  senders = (received_in k).senders;
  had = (received_in k).had;
  settled = (received_in k).settled;
}

-- the sender that has sent these events more
abbrev pub with_pushed : SenderView → List Stamped → SenderView
with_pushed s events =
    record { queue = s.queue; senders = s.senders; caller = s.caller; sent = s.sent ++ events }

-- the receiver that has had these events more
abbrev pub with_popped : ReceiverView → List Stamped → ReceiverView
with_popped r events =
    record { queue = r.queue; senders = r.senders; had = r.had ++ events; settled = r.settled }

abbrev pub lane_sent : SenderView → Lane
lane_sent s = record { caller = s.caller; items = s.sent }

-- the receiver that has taken in a sender
abbrev pub with_taken_in : ReceiverView → SenderView → ReceiverView
with_taken_in r s = record {
  queue = r.queue;
  senders = r.senders;
  had = r.had;
  settled = r.settled ++ lane_sent s ∷ [];
}

-- At a step of the call the queue held as many parcels as it can. The events of the sender's caller
-- in them are the last that it sent, and all are of callers that have a sender.
pub record WasFull (relay : RelayView) (s : SenderView) : Type 0 where
  pub queued : List (List Stamped)
  pub full : length queued ≡ relay.capacity
  pub own : EndsWith s.sent (part s.caller (events_in queued))
  pub senders : All (λ (e : Stamped). e.caller < s.senders) (events_in queued)

-- At a step of the call the queue held no parcel. What was had of a sender that was taken in, and
-- then what was queued of it, is what it sent, and all that was had is of callers that have a
-- sender.
pub record WasEmpty (r : ReceiverView) : Type 0 where
  pub queued : List (List Stamped)
  pub empty : length queued ≡ 0
  pub settled : All (IsHadAndQueued r.had (events_in queued)) r.settled
  pub senders : All (λ (e : Stamped). e.caller < r.senders) r.had

-- all that the lane's caller sent was had
abbrev pub HasAll : List Stamped → Lane → Type 0
HasAll had lane = part lane.caller had ≡ lane.items

-- the senders of a relay in the order of their callers, from this one on, of which none has sent
-- anything
abbrev pub AreNew : TableId → ℕ → ℕ → List SenderView → Type 0
AreNew queue senders first ends = (i : ℕ) (d : SenderView) → i < length ends
    → slice_index_or ends i d
    ≡ record { queue = queue; senders = senders; caller = first + i; sent = [] }
