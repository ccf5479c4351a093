-- What an entry that waits is seen as, and the layout in which it is held.
use Rattle.std.specs.Prelude.{◌≡◌, ℕ, Bool, true, false, Some, None, refl}
use Rattle.vyrd_judge.specs.declared.waiting.Event.{Event}
use Rattle.vyrd_judge.specs.declared.waiting.Event.TheVariants.{Begins, Commits, Returns}
use Rattle.vyrd_judge.specs.declared.waiting.Held.{Held}
use Rattle.vyrd_judge.specs.declared.waiting.Held.TheVariants.{Call, Unreturned, Returned, Return}

-- an entry that waits: whose it is, its position in the log, and what it does
pub record WaitingView : Type 0 where
  pub caller : ℕ
  pub position : ℕ
  pub event : Event

-- whether an event is the commit of an execution that hasn't returned
abbrev pub is_unreturned : Event → Bool
is_unreturned (Commits method args None) = true
is_unreturned _ = false

-- whose entry is held
abbrev pub caller_in : Held → ℕ
caller_in (Call caller method args) = caller
caller_in (Unreturned caller method args) = caller
caller_in (Returned caller method args reply) = caller
caller_in (Return caller reply) = caller

-- what the entry that is held does
abbrev pub event_in : Held → Event
event_in (Call caller method args) = Begins method args
event_in (Unreturned caller method args) = Commits method args None
event_in (Returned caller method args reply) = Commits method args (Some reply)
event_in (Return caller reply) = Returns reply

-- how a caller's entry that does this is held
abbrev pub held_as : ℕ → Event → Held
held_as caller (Begins method args) = Call caller method args
held_as caller (Commits method args None) = Unreturned caller method args
held_as caller (Commits method args (Some reply)) = Returned caller method args reply
held_as caller (Returns reply) = Return caller reply

-- nothing of it is lost
pub held_again : (h : Held) → held_as (caller_in h) (event_in h) ≡ h
held_again (Call caller method args) = refl
held_again (Unreturned caller method args) = refl
held_again (Returned caller method args reply) = refl
held_again (Return caller reply) = refl
