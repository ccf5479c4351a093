use Rattle.vyrd_work.proofs.Prelude.{◌++◌, [], ◌∷◌, take, ap, ◌∙◌, sym, append-nil, get_or}
use Rattle.vyrd_work.proofs.Prelude.{cons_option, Insert, WorkOp, ops_of}
use Rattle.vyrd_base.specs.declared.subject.Method.TheVariants.{Multiset as OfMultiset}
use Rattle.vyrd_work.proofs.ScriptLaws.{ops_more, own_op, other_op}
use Rattle.vyrd_work.proofs.machine.own_ops.Goals as goal
use Rattle.vyrd_work.proofs.machine.own_ops.Goals.{then-op-caller+in_ok-push, else-op-caller}

-- what stands for the operation past the end
abbrev past : WorkOp
past = record {
  caller = 0;
  op =
      record { method = OfMultiset Insert; args = record { a = 0; b = 0; c = 0 } };
}

pub loop-op-preserved : goal.loop-op-preserved
loop-op-preserved c =
    let here = get_or c.args.ops.now c.loop-op.op-index past in
    let more = ops_more c.args.caller c.args.ops.now c.loop-op.op-index past c.loop-op-test.true in
    elim c.if-op-caller.branch [
      | then-op-caller+in_ok-push w ↦ ap (λ own. own.items) w.own-is ∙ w.in_ok-push.ensures.items
          ∙ ap (λ xs. xs ++ here.op ∷ []) c.loop-op.invariant
          ∙ ap (λ o. ops_of c.args.caller (take c.loop-op.op-index c.args.ops.now)
          ++ cons_option o [])
          (sym (own_op c.args.caller here w.if-op-caller.true)) ∙ sym more
      | else-op-caller w ↦ ap (λ own. own.items) w.own-is ∙ c.loop-op.invariant
          ∙ sym (append-nil (ops_of c.args.caller (take c.loop-op.op-index c.args.ops.now)))
          ∙ ap (λ o. ops_of c.args.caller (take c.loop-op.op-index c.args.ops.now)
          ++ cons_option o [])
          (sym (other_op c.args.caller here w.if-op-caller.false)) ∙ sym more
    ]
