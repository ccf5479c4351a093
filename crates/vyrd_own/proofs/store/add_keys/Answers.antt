use Rattle.vyrd_own.proofs.Prelude.{ap, sym, ◌∙◌, subst, length, arith, AreAdded}
use Rattle.vyrd_own.proofs.SetLaws.{none_added, no_room_yet, step_kept, step_added}
use Rattle.vyrd_own.proofs.PriceLaws.{one_more}
use Rattle.vyrd_own.proofs.store.add_keys.Goals as goal
use Rattle.vyrd_own.proofs.store.add_keys.Goals.{then-amount-ne0+then-amount_at-eq0+in_ok-push+in_ok-set_at}
use Rattle.vyrd_own.proofs.store.add_keys.Goals.{else-amount-ne0}
use Rattle.vyrd_own.proofs.store.add_keys.Goals.{else-amount-ne0-via-then-amount-ne0+else-amount_at-eq0}
use Rattle.vyrd_own.proofs.store.add_keys.Goals.{else-amount-ne0-via-else-amount-ne0}

pub loop-key-init : goal.loop-key-init
loop-key-init g c = record {
  kept = (
    subst (λ ks. AreAdded (g.S.Store.amounts c.args.store.now) (g.S.Store.amounts c.args.store.now)
        ks c.args.pairs.now) (sym c.requires.none)
        (none_added (g.S.Store.amounts c.args.store.now) c.args.pairs.now c.requires.formed),
    no_room_yet (g.S.Store.amounts c.args.store.now) c.args.pairs.now,
  );
  few = omega (arith, ap length c.requires.none);
  steps = omega arith;
}

pub loop-key-preserved : goal.loop-key-preserved
loop-key-preserved g c = record {
  kept = elim c.if-amount-ne0.branch [
    | then-amount-ne0+then-amount_at-eq0+in_ok-push+in_ok-set_at w ↦
        step_added (g.S.Store.amounts c.args.store.now) (g.S.Store.amounts c.loop-key.store)
        (g.S.Store.amounts c.if-amount-ne0.store)
        c.loop-key.added.items c.if-amount-ne0.added.items c.args.pairs.now c.loop-key.key-index
        c.amount_after-amount.result
        c.loop-key-test.true c.loop-key.invariant.kept
        (sym w.amount_at.ensures ∙ w.if-amount_at-eq0.true)
        w.if-amount-ne0.true
        (ap g.S.Store.amounts w.store-is ∙ w.in_ok-set_at.ensures.ok)
        (ap (λ v. v.items) w.added-is ∙ w.in_ok-push.ensures.items)
    | else-amount-ne0 w ↦
        step_kept (g.S.Store.amounts c.args.store.now) (g.S.Store.amounts c.loop-key.store)
        (g.S.Store.amounts c.if-amount-ne0.store)
        c.loop-key.added.items c.if-amount-ne0.added.items c.args.pairs.now c.loop-key.key-index
        c.loop-key-test.true c.loop-key.invariant.kept (ap g.S.Store.amounts w.store-is)
        (ap (λ v. v.items) w.added-is)
        (elim w.else-amount-ne0.branch [
          | else-amount-ne0-via-then-amount-ne0+else-amount_at-eq0 v ↦ λ some none.
              v.if-amount_at-eq0.false (v.amount_at.ensures ∙ none)
          | else-amount-ne0-via-else-amount-ne0 v ↦ λ some none. some
              (sym c.amount_after-amount.ensures.amount ∙ v.if-amount-ne0.false)
        ])
  ];
  few = elim c.if-amount-ne0.branch [
    | then-amount-ne0+then-amount_at-eq0+in_ok-push+in_ok-set_at w ↦
        omega (
          arith,
          c.loop-key.invariant.few,
          one_more c.loop-key.added.items c.if-amount-ne0.added.items _
              (ap (λ v. v.items) w.added-is ∙ w.in_ok-push.ensures.items),
        )
    | else-amount-ne0 w ↦
        omega (arith, c.loop-key.invariant.few, ap length (ap (λ v. v.items) w.added-is))
  ];
  steps = omega (
    arith,
    c.loop-key.invariant.steps,
    c.tick.ensures,
    c.amount_after-amount.ensures.steps,
    c.add.ensures,
  );
}
