use Rattle.vyrd_every.proofs.Workloads as workloads
use Rattle.vyrd_every.proofs.laws.turns_arent_stuck.Goals as goal

pub returns : goal.returns
returns c = workloads.not_stuck
