-- A machine in the middle of its script, with the hand that it is played on.
use Rattle.std.specs.Prelude.{◌≡◌, ℕ, ◌+◌, ◌≤◌, ⊤, true, false, List, length, map}
use Rattle.vyrd_base.specs.declared.header.Header.{Header}
use Rattle.vyrd_base.specs.declared.log.Kind.TheVariants.{Call}
use Rattle.vyrd_base.specs.declared.history.Did.{Did}
use Rattle.vyrd_base.specs.declared.history.Stamped.{Stamped}
use Rattle.vyrd_base.specs.Places.{newest_first}
use Rattle.vyrd_base.specs.Layout.{plain_words, lock_words}
use Rattle.vyrd_memory.specs.declared.act.Act.{Act}
use Rattle.vyrd_memory.specs.declared.act.Act.TheVariants.{Mark}
use Rattle.vyrd_memory.specs.Scripts.{Script, next_act, left_after, is_between, Plays}
use Rattle.vyrd_memory.specs.Soundness.{Situation, IsSound, holds}
use Rattle.vyrd_memory.specs.Bounds.{bound_of, EndsWithin}
use Rattle.vyrd_trace.specs.declared.plan.Plan.{Plan}
use Rattle.vyrd_trace.specs.Hands.{HandView, Holds}
use Rattle.vyrd_live.specs.Rooms.{HadRoom}

-- what the events of a lane did, the newest first
abbrev pub dids_of : List Stamped → List Did
dids_of lane = map (λ (e : Stamped). e.did) (newest_first lane)

-- the memory of a header
pub record IsMemoryOf (h : Header) (plan : Plan) : Type 0 where
  pub plain : plan.plain ≡ plain_words h
  pub locks : plan.locks ≡ lock_words h

-- what is left of a script is sound for a caller that holds these locks, and the hand holds them
pub record FitsHand (h : Header) (left : Script) (hand : HandView) : Type 0 where
  pub situation : Situation
  pub sound : IsSound h situation left
  pub held : (lock : ℕ) → holds situation lock ≡ true → (plain_words h ≤ lock) × Holds hand lock

-- The hand's lane is what the script wants up to now, each operation in it began with room, and
-- what is left can be played on.
pub record IsWorking (h : Header) (script left : Script) (hand : HandView) : Type 0 where
  pub plays : Plays script (dids_of hand.lane)
  pub left_is : left ≡ left_after script (dids_of hand.lane)
  pub had_room : HadRoom h hand.limit (dids_of hand.lane)
  pub fits : ∥ FitsHand h left hand ∥₁
  pub in_time : is_between left ≡ false → ∥ EndsWithin hand.spare left ∥₁

-- an act that begins an operation leaves room for its bound
abbrev pub HasRoom : Header → ℕ → ℕ → Act → Type 0
HasRoom h limit before (Mark (Call method args)) = before + bound_of h method ≤ limit
HasRoom h limit before _ = ⊤

-- the next event has room, and so have those up to the end of its operation
pub record HasRoomAhead (h : Header) (left : Script) (hand : HandView) : Type 0 where
  pub spare : ∥ EndsWithin hand.spare left ∥₁
  pub room : HasRoom h hand.limit (length hand.lane) (next_act left)
