use Rattle.vyrd_memory.proofs.OneEnd.{one_end, ended_isnt_stuck}
use Rattle.vyrd_memory.proofs.laws.turns_have_one_end.Goals as goal

pub returns-clause-same : goal.returns-clause-same
returns-clause-same c = λ scripts turns a b first second. one_end scripts turns a b first second

pub returns-clause-ends : goal.returns-clause-ends
returns-clause-ends c = λ scripts turns history to stuck. ended_isnt_stuck scripts turns history to
    stuck
