use Rattle.vyrd_every.proofs.Prelude.{◌⊎◌, inl, inr, List, Stamped, GetsStuck, RunsTo, Workload}
use Rattle.vyrd_every.proofs.Prelude.{KeepsLimits, work_scripts, IsCorrect, IsSchedule}
use Rattle.vyrd_every.proofs.Ending.{run_ends_or_sticks}
use Rattle.vyrd_every.proofs.Interleaved.{run_is_schedule}
use Rattle.vyrd_every.proofs.Workloads.{not_stuck}
use Rattle.vyrd_every.proofs.laws.workloads_have_schedules.Goals as goal

pub returns : goal.returns
returns c = λ w limits correct. by_end w limits correct
    (run_ends_or_sticks (work_scripts w) w.turns)
  where
    by_end : (w : Workload) → KeepsLimits w → IsCorrect w
        → ((history : List Stamped) × RunsTo (work_scripts w) w.turns history)
        ⊎ GetsStuck (work_scripts w) w.turns
        → ∥ ((history : List Stamped) × IsSchedule w history) ∥₁
    by_end w limits correct (inl ends) = ∣ (ends.0, run_is_schedule w ends.0 limits ends.1) ∣₁
    by_end w limits correct (inr stuck) = absurd (not_stuck w limits correct stuck)
