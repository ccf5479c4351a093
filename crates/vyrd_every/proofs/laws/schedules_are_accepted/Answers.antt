use Rattle.vyrd_every.proofs.Workloads as workloads
use Rattle.vyrd_every.proofs.laws.schedules_are_accepted.Goals as goal

pub returns : goal.returns
returns c = workloads.schedule_accepted
