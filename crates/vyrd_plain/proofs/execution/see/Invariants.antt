use Rattle.vyrd_plain.proofs.Prelude.{◌≡◌, seeing, rules_by}
use Rattle.vyrd_base.proofs.ChangedLists.{changed_below}
use Rattle.vyrd_plain.proofs.execution.see.Given as goal

abbrev pub invariant-loop-execution : goal.invariant-loop-execution
invariant-loop-execution g l = l.execution-items
    ≡ changed_below (seeing (rules_by (g.S.Spec.charter l.spec)) (g.S.Spec.state l.spec))
    l.execution-index l.initial.execution-items
