use Rattle.vyrd_work.proofs.Prelude.{◌≤◌, length, ap, ◌∙◌, subst, sym, IfOk-weaker, are_callable}
use Rattle.vyrd_work.proofs.Prelude.{most_ops, workload_of, ops_of}
use Rattle.vyrd_work.proofs.ScriptLaws.{ops_are_few, ops_are_callable}
use Rattle.vyrd_work.proofs.machine.ops_of.Goals as goal

pub returns-clause-few : goal.returns-clause-few
returns-clause-few c = IfOk-weaker c.own_ops.result _ _ (λ own is.
    subst (λ ops. length ops ≤ most_ops)
    (sym (is ∙ ap (ops_of c.args.caller) c.deref.ensures.value))
    (ops_are_few (workload_of c.args.work.now) c.args.caller c.requires)) c.own_ops.ensures

pub returns-clause-callable : goal.returns-clause-callable
returns-clause-callable c = IfOk-weaker c.own_ops.result _ _ (λ own is.
    ap (are_callable c.args.work.now.header) (is ∙ ap (ops_of c.args.caller) c.deref.ensures.value)
    ∙ ops_are_callable (workload_of c.args.work.now) c.args.caller c.requires) c.own_ops.ensures
