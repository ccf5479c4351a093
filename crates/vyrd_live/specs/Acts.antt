-- One act of a caller, done by the hand of the caller.
use Rattle.std.specs.Prelude.{◌≡◌, ℕ, ◌+◌, ◌<◌, ◌≤◌, ◌^◌, false, Some}
use Rattle.vyrd_base.specs.declared.history.Did.{Did}
use Rattle.vyrd_base.specs.Histories.{is_write}
use Rattle.vyrd_memory.specs.declared.act.Act.{Act}
use Rattle.vyrd_memory.specs.declared.act.Act.TheVariants.{Load, Store, Take, Give, Mark, Done}
use Rattle.vyrd_memory.specs.Scripts.{event_of, IsAnswer}
use Rattle.vyrd_trace.specs.declared.plan.Plan.{Plan}
use Rattle.vyrd_trace.specs.Hands.{HandView, Holds, with_one_more}

-- what an act asks of the hand that it is done by
abbrev pub MayAct : Plan → HandView → Act → Type 0
MayAct plan hand (Load cell) = cell < plan.plain
MayAct plan hand (Store cell value) = (cell < plan.plain) × (value < 2 ^ 63)
MayAct plan hand (Take lock) = (plan.plain ≤ lock) × (lock < plan.plain + plan.locks)
MayAct plan hand (Give lock) =
    (plan.plain ≤ lock) × (lock < plan.plain + plan.locks) × Holds hand lock
MayAct plan hand (Mark kind) = is_write kind ≡ false
MayAct plan hand Done = ⊥

-- the hand has one event more, that of the act with this answer
pub record HasActed (act : Act) (answer : ℕ) (before after : HandView) : Type 0 where
  pub did : Did
  pub number : ℕ
  pub event : event_of act answer ≡ Some did
  pub answered : IsAnswer act answer
  pub hand : after ≡ with_one_more before number did after.look
