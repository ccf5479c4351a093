use Rattle.std.proofs.Common.{◌≡◌, drop}
use Rattle.vyrd_witness.specs.Executions.{next_return}
use Rattle.vyrd_witness.proofs.execution.next_return.Given as goal

abbrev pub invariant-loop-at : goal.invariant-loop-at
invariant-loop-at l = next_return l.fn.caller l.fn.from (drop l.fn.from l.log)
    ≡ next_return l.fn.caller l.at (drop l.at l.log)
