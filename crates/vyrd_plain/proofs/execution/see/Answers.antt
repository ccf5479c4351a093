use Rattle.vyrd_plain.proofs.Prelude.{◌≡◌, ◌<◌, Some, None, length, map, drop, get_or, slice_get}
use Rattle.vyrd_plain.proofs.Prelude.{sym, ap, ◌∙◌, arith, slice_get-get_or, seeing, rules_by}
use Rattle.vyrd_base.proofs.ChangedLists.{changed_next, changed_all, unchanged_at, written_back}
use Rattle.vyrd_plain.proofs.execution.see.Goals as goal

pub seeing-requires : goal.seeing-requires
seeing-requires g c = record {
  allowed = λ x is.
      let old = c.deref_mut-execution-items.result.now in
      let i = c.loop-execution.execution-index in
      let here : get_or old i None ≡ Some x =
      sym (unchanged_at
      (seeing (rules_by (g.S.Spec.charter c.args.spec.now)) (g.S.Spec.state c.args.spec.now)) i old
      None) ∙ sym (ap (λ xs. get_or xs i None) c.loop-execution.invariant) ∙ is in
      let kept : slice_get old i ≡ Some (Some x) = slice_get-get_or old i None
      c.loop-execution-test.true ∙ ap Some here in
      let within : i < (rules_by (g.S.Spec.charter c.args.spec.now)).header.callers = omega (
        arith,
        c.loop-execution-test.true,
        c.deref_mut-execution-items.ensures.len,
        c.requires.all,
      ) in
      c.requires.allowed i x within (rw c.deref_mut-execution-items.ensures.value at kept);
}

pub loop-execution-preserved : goal.loop-execution-preserved
loop-execution-preserved g c =
    changed_next
    (seeing (rules_by (g.S.Spec.charter c.args.spec.now)) (g.S.Spec.state c.args.spec.now))
    c.loop-execution.execution-index c.deref_mut-execution-items.result.now
    c.loop-execution.execution-items None c.seeing.result
    c.loop-execution-test.true c.loop-execution.invariant c.seeing.ensures

pub returns-clause-seen : goal.returns-clause-seen
returns-clause-seen g c =
    written_back c.args.executions.now.len c.loop-execution.execution-items
    (drop (length c.loop-execution.execution-items) c.args.executions.now.items)
    (c.loop-execution.auto.execution-items ∙ c.deref_mut-execution-items.ensures.len)
    ∙ c.loop-execution.invariant
    ∙ changed_all
    (seeing (rules_by (g.S.Spec.charter c.args.spec.now)) (g.S.Spec.state c.args.spec.now))
    c.loop-execution.execution-index c.deref_mut-execution-items.result.now
    c.loop-execution-test.false
    ∙ ap (map (seeing (rules_by (g.S.Spec.charter c.args.spec.now))
    (g.S.Spec.state c.args.spec.now))) c.deref_mut-execution-items.ensures.value
