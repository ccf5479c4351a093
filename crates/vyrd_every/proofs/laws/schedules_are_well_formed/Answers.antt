use Rattle.vyrd_every.proofs.Workloads as workloads
use Rattle.vyrd_every.proofs.laws.schedules_are_well_formed.Goals as goal

pub returns-clause-formed : goal.returns-clause-formed
returns-clause-formed c = λ w history limits is schedule. workloads.formed w history
    (workloads.keeping w limits is) schedule

pub returns-clause-closed : goal.returns-clause-closed
returns-clause-closed c = λ w history limits is schedule. workloads.closed w history
    (workloads.keeping w limits is) schedule
