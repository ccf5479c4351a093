-- Inputs that say a workload of a correct structure.
use Rattle.std.specs.Prelude.{◌≡◌, ℕ, List, Option, Some, Ok}
use Rattle.vyrd_work.specs.Workloads.{Workload}
use Rattle.vyrd_work.specs.WorkReading.{work_reading}
use Rattle.vyrd_every.specs.Schedules.{IsCorrect, IsCorrectWithFewEvents}

-- the input tells its bytes, and they are a workload of a correct structure
pub record SaysCorrect (input : Option (List ℕ)) : Type 0 where
  pub bytes : List ℕ
  pub told : input ≡ Some bytes
  pub work : Workload
  pub read : work_reading bytes ≡ Ok work
  pub correct : IsCorrect work

-- they are a workload of a correct structure whose callers have few events
pub record SaysFewEvents (input : Option (List ℕ)) : Type 0 where
  pub bytes : List ℕ
  pub told : input ≡ Some bytes
  pub work : Workload
  pub read : work_reading bytes ≡ Ok work
  pub correct : IsCorrectWithFewEvents work
