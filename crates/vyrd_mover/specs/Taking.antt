-- What is kept of a history that is taken in event by event.
use Rattle.std.specs.Prelude.{◌≡◌, true, List, map}
use Rattle.vyrd_base.specs.declared.header.Header.{Header}
use Rattle.vyrd_base.specs.declared.history.Stamped.{Stamped}
use Rattle.vyrd_base.specs.Histories.{cells_of, is_legal_at, is_legal}
use Rattle.vyrd_mover.specs.declared.step.Step.{Step}
use Rattle.vyrd_mover.specs.HistoryReading.{next_place}
use Rattle.vyrd_mover.specs.Steps.{step_of}
use Rattle.vyrd_mover.specs.Usage.{UsageKept, HaveSeen}

-- the header, how the cells were used, and the events as steps
pub record Taken : Type 0 where
  pub header : Header
  pub uses : UsageKept
  pub steps : List Step

-- this legal history was taken in
pub record HasTaken (t : Taken) (history : List Stamped) : Type 0 where
  pub legal : is_legal (cells_of t.header) history ≡ true
  pub seen : HaveSeen (cells_of t.header) history t.uses
  pub steps_are : t.steps ≡ map step_of history

-- some legal history was taken in
pub record HasTakenSome (t : Taken) : Type 0 where
  pub history : List Stamped
  pub taken : HasTaken t history

-- the event is legal after these
abbrev pub IsNext : Header → List Stamped → Stamped → Type 0
IsNext h history e = is_legal_at (cells_of h) (next_place history e) ≡ true

-- the event is legal after some history that was taken in
pub record CanTake (t : Taken) (e : Stamped) : Type 0 where
  pub history : List Stamped
  pub taken : HasTaken t history
  pub next : IsNext t.header history e
