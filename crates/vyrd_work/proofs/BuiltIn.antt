-- The structure of a workload is built in, for the logs of the user's own are of version 3.
use Rattle.vyrd_work.proofs.Prelude.{◌≡◌, true, is_built_in, first_version_built_in, Workload}
use Rattle.vyrd_work.proofs.Prelude.{KeepsLimits}

pub work_built_in : (w : Workload) → KeepsLimits w → is_built_in w.header.subject ≡ true
work_built_in w keeps = first_version_built_in w.header keeps.version
