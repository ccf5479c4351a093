-- What a worker has sent of its lane.
use Rattle.std.specs.Prelude.{◌≡◌, ℕ, ◌≤◌, length, take}
use Rattle.std.specs.List.{All}
use Rattle.vyrd_base.specs.declared.history.Stamped.{Stamped}
use Rattle.vyrd_trace.specs.Hands.{HandView}
use Rattle.vyrd_relay.specs.Ends.{RelayView, SenderView}

-- The sender, which is of this relay and of the hand's caller, has sent as many of the lane's first
-- events as `place` says, those that the hand has forgotten among them. All events of the lane are
-- the caller's.
pub record HasSent (relay : RelayView) (sender : SenderView) (place : ℕ)
    (hand : HandView) : Type 0 where
  pub queue : sender.queue ≡ relay.queue
  pub caller : sender.caller ≡ hand.caller
  pub gone : hand.forgotten ≤ place
  pub within : place ≤ length hand.lane
  pub sent : sender.sent ≡ take place hand.lane
  pub own : All (λ (e : Stamped). e.caller ≡ hand.caller) hand.lane
