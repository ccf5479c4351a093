-- The run by turns of a workload, if it ends, is one of its schedules.
use Rattle.vyrd_every.proofs.Prelude.{List, Stamped, RunsTo, run_is_legal, run_plays, Workload}
use Rattle.vyrd_every.proofs.Prelude.{KeepsLimits, work_scripts, scripts_sound, IsSchedule}

pub run_is_schedule : (w : Workload) (history : List Stamped) → KeepsLimits w
    → RunsTo (work_scripts w) w.turns history → IsSchedule w history
run_is_schedule w history limits to =
    let sound = scripts_sound w limits in
    record {
      legal = run_is_legal w.header (work_scripts w) w.turns history sound to;
      parts = run_plays w.header (work_scripts w) w.turns history sound to;
    }
