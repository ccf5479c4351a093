use Rattle.std.proofs.Common.{◌+◌, get_or, refl, sym, subst, ◌∙◌}
use Rattle.vyrd_spec.proofs.RowAmounts.{HasBelow, has_pushed, has_skipped, has_all}
use Rattle.vyrd_spec.proofs.row.row_shown.Goals as goal
use Rattle.vyrd_spec.proofs.row.row_shown.Goals.{then-row-key-ne0+in_ok-push, else-row-key-ne0}

pub loop-key-preserved : goal.loop-key-preserved
loop-key-preserved c = elim c.if-row-key-ne0.branch [
  | then-row-key-ne0+in_ok-push w ↦
      let row = c.args.row.now in
      let n = c.loop-key.key in
      subst (HasBelow row (n + 1)) (sym (w.view-is ∙ w.in_ok-push.ensures.ok))
      (has_pushed row n (get_or row n 0) c.loop-key.view refl w.if-row-key-ne0.true
      c.loop-key.invariant)
  | else-row-key-ne0 w ↦
      let row = c.args.row.now in
      let n = c.loop-key.key in
      subst (HasBelow row (n + 1)) (sym w.view-is)
      (has_skipped row n c.loop-key.view w.if-row-key-ne0.false c.loop-key.invariant)
]

pub returns : goal.returns
returns c = has_all c.args.row.now c.loop-key.key c.loop-key.view c.loop-key-test.false
    c.loop-key.invariant
