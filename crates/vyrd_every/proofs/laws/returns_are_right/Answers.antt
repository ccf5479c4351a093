use Rattle.vyrd_base.specs.Verdicts.{is_return}
use Rattle.vyrd_every.proofs.Workloads as workloads
use Rattle.vyrd_every.proofs.laws.returns_are_right.Goals as goal

pub returns : goal.returns
returns c = λ w history limits is schedule. workloads.kinds_right w history is_return limits.version
    (workloads.keeping w limits is) schedule
