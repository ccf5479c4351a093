-- What takes in the events of a live run beside the workers.
use Rattle.std.specs.Prelude.{◌≡◌, ℕ, ◌<◌, ◌≤◌, true, false, List, ◌∷◌, ◌++◌, map, None, is_some}
use Rattle.std.specs.List.{All}
use Rattle.vyrd_base.specs.declared.history.Stamped.{Stamped}
use Rattle.vyrd_relay.specs.declared.known.Lane.{Lane}
use Rattle.vyrd_relay.specs.Ends.{ReceiverView, lane_sent}
use Rattle.vyrd_live.specs.declared.watch.Watch.{Watch}
use Rattle.vyrd_live.specs.declared.outbox.Outbox.{Outbox}
use Rattle.vyrd_live.specs.declared.worker.Stopped.{Stopped}
use Rattle.vyrd_verifier.specs.Taken.{numbered, in_order_below, has_failed, HasTakenIn, MayRefuse}

-- the sequencer has taken in these events, unless it was set aside
abbrev pub HasWatched : {S : Type 0} → (S → List Stamped → Type 0) → Watch S → List Stamped
    → Type 0
HasWatched has_taken w taken =
    w.stands ≡ true → (has_failed w.sequencer ≡ false) × HasTakenIn has_taken w.sequencer taken

-- between two moments what no event changes of the sink stays, and a sequencer that was set aside
-- is so for good
abbrev pub StaysFixed : {S F : Type 0} → (S → F) → Watch S → Watch S → Type 0
StaysFixed fixed before after = after.stands ≡ true
    → (before.stands ≡ true) × (fixed after.sequencer.sink ≡ fixed before.sequencer.sink)

-- The sequencer was set aside for one of these events. It had taken in those before that one.
pub record IsSetAsideFor {S : Type 0} (has_taken : S → List Stamped → Type 0)
    (before after : Watch S) (events : List Stamped) : Type 0 where
  pub front : List Stamped
  pub event : Stamped
  pub behind : List Stamped
  pub whole : events ≡ front ++ event ∷ behind
  pub last : Watch S
  pub stood : last.stands ≡ true
  pub watched : (taken : List Stamped) → HasWatched has_taken before taken
      → HasWatched has_taken last (taken ++ front)
  pub may_refuse : MayRefuse last.sequencer after.sequencer event.number

-- These events came, and were taken in. If the sequencer is set aside, it is for one of them.
pub record HasTakenAll {S F : Type 0} (has_taken : S → List Stamped → Type 0) (fixed : S → F)
    (before after : Watch S) (events : List Stamped) : Type 0 where
  pub same : after.receiver ≡ before.receiver
  pub watched : (taken : List Stamped) → HasWatched has_taken before taken
      → HasWatched has_taken after (taken ++ events)
  pub fixed_is : StaysFixed fixed before after
  pub callers : after.callers ≡ before.callers
  pub counted : before.taken ≤ after.taken
  pub set_aside : before.stands ≡ true → after.stands ≡ false
      → IsSetAsideFor has_taken before after events

-- the receiver is of the same relay, and has taken in the same senders
pub record IsSameReceiver (before after : ReceiverView) : Type 0 where
  pub queue : after.queue ≡ before.queue
  pub senders : after.senders ≡ before.senders
  pub settled : after.settled ≡ before.settled

-- from one moment to a later one what came was taken in, what no event changes of the sink stays,
-- and the gate is asked about no fewer events
pub record TakesIn {S F : Type 0} (has_taken : S → List Stamped → Type 0) (fixed : S → F)
    (before after : Watch S) : Type 0 where
  pub watched : HasWatched has_taken before before.receiver.had
      → HasWatched has_taken after after.receiver.had
  pub fixed_is : StaysFixed fixed before after
  pub callers : after.callers ≡ before.callers
  pub counted : before.taken ≤ after.taken

-- what came was taken in, and the receiver is the same
pub record GoesOn {S F : Type 0} (has_taken : S → List Stamped → Type 0) (fixed : S → F)
    (before after : Watch S) : Type 0 where
  pub same : IsSameReceiver before.receiver after.receiver
  pub takes_in : TakesIn has_taken fixed before after

-- all that the receiver had is of the senders of its relay
abbrev pub AreOfSenders : ReceiverView → Type 0
AreOfSenders r = All (λ (e : Stamped). e.caller < r.senders) r.had

-- what the senders of outboxes sent
abbrev pub lanes_sent : List Outbox → List Lane
lanes_sent outboxes = map (λ (o : Outbox). lane_sent o.sender) outboxes

-- what the callers of workers did
abbrev pub lanes_made : List Stopped → List Lane
lanes_made stopped =
    map (λ (s : Stopped). record { caller = s.hand.caller; items = s.hand.lane }) stopped

-- There is an event with each number below `next` among those that came, and none with that number.
-- The sink has taken those, in the order of their numbers.
pub record HasShownInOrder {S : Type 0} (has_taken : S → List Stamped → Type 0) (sink : S)
    (taken : List Stamped) : Type 0 where
  pub next : ℕ
  pub gone : (n : ℕ) → n < next → is_some (numbered n taken) ≡ true
  pub missing : numbered next taken ≡ None
  pub shown : has_taken sink (in_order_below next taken)
