use Rattle.vyrd_observers.proofs.Prelude.{◌<◌, ◌≤◌, ◌+◌, List, map, slice_get, ap, sym, subst, ◌∙◌}
use Rattle.vyrd_observers.proofs.Prelude.{length, set, Some, arith, set-get_or, slice_get-get_or}
use Rattle.vyrd_observers.proofs.Prelude.{Asked, AreAsking, after_state, seen_by, kept_count}
use Rattle.vyrd_observers.proofs.Prelude.{answer_count, AreInOrder, rules_by, changed_next}
use Rattle.vyrd_observers.proofs.CostLaws.{answers_changed, kept_changed}
use Rattle.vyrd_observers.proofs.TrailLaws.{asking_after, order_after, length-changed, changed_none}
use Rattle.vyrd_observers.proofs.TrailLaws.{changed_enough, free_stays, unaffected_stays}
use Rattle.vyrd_observers.proofs.trails.see_all.Goals as goal

pub loop-i-init : goal.loop-i-init
loop-i-init g c =
    let affects = g.S.Spec.affects c.args.spec.now in
    let told = (rules_by (g.S.Spec.charter c.args.spec.now)).answer
    (g.S.Spec.state c.args.spec.now) in
    record {
      changed = sym (changed_none (after_state affects told) c.first_affected-i.result
          c.args.trails.now.items (λ i t low there.
          unaffected_stays affects told t
          (c.first_affected-i.ensures.none i t low
          (ap (λ (ts : List Asked). slice_get ts i) c.deref.ensures.value ∙ there))));
      within = c.first_affected-i.ensures.within;
      steps = omega arith;
    }

pub see-requires-clause-allowed : goal.see-requires-clause-allowed
see-requires-clause-allowed g c = λ is_asked.
    let f = after_state (g.S.Spec.affects c.args.spec.now)
    ((rules_by (g.S.Spec.charter c.args.spec.now)).answer (g.S.Spec.state c.args.spec.now)) in
    let old = c.args.trails.now.items in
    let i = c.loop-i.i in
    let within : i < length c.loop-i.trails.items = omega (
      arith,
      c.loop-i-test.true,
      c.requires.within,
      ap length c.loop-i.invariant.changed,
      length-changed f i old,
    ) in
    ((subst (AreAsking (rules_by (g.S.Spec.charter c.args.spec.now)).header)
    (sym c.loop-i.invariant.changed)
    (asking_after (rules_by (g.S.Spec.charter c.args.spec.now)).header
    (g.S.Spec.affects c.args.spec.now)
    ((rules_by (g.S.Spec.charter c.args.spec.now)).answer (g.S.Spec.state c.args.spec.now)) i old
    c.requires.asking))
    i c.index_mut.result.now
    (slice_get-get_or c.loop-i.trails.items i c.index_mut.result.now within
    ∙ ap Some (sym c.index_mut.ensures.value)) is_asked).0

pub see-requires-clause-may_answer : goal.see-requires-clause-may_answer
see-requires-clause-may_answer g c = λ is_asked.
    let f = after_state (g.S.Spec.affects c.args.spec.now)
    ((rules_by (g.S.Spec.charter c.args.spec.now)).answer (g.S.Spec.state c.args.spec.now)) in
    let old = c.args.trails.now.items in
    let i = c.loop-i.i in
    let within : i < length c.loop-i.trails.items = omega (
      arith,
      c.loop-i-test.true,
      c.requires.within,
      ap length c.loop-i.invariant.changed,
      length-changed f i old,
    ) in
    ((subst (AreAsking (rules_by (g.S.Spec.charter c.args.spec.now)).header)
    (sym c.loop-i.invariant.changed)
    (asking_after (rules_by (g.S.Spec.charter c.args.spec.now)).header
    (g.S.Spec.affects c.args.spec.now)
    ((rules_by (g.S.Spec.charter c.args.spec.now)).answer (g.S.Spec.state c.args.spec.now)) i old
    c.requires.asking))
    i c.index_mut.result.now
    (slice_get-get_or c.loop-i.trails.items i c.index_mut.result.now within
    ∙ ap Some (sym c.index_mut.ensures.value)) is_asked).1

pub returns-in_err-see-clause-order : goal.returns-in_err-see-clause-order
returns-in_err-see-clause-order g c = λ h watches order.
    let unchanged = ap (set c.loop-i.trails.items c.loop-i.i)
    (c.in_err-see.ensures.unchanged ∙ c.index_mut.ensures.value)
    ∙ set-get_or c.loop-i.trails.items c.loop-i.i c.index_mut.result.now
    ∙ c.loop-i.invariant.changed in
    subst (λ ts. AreInOrder h c.args.reach ts watches) (sym unchanged)
    (order_after h c.args.reach (g.S.Spec.affects c.args.spec.now)
    ((rules_by (g.S.Spec.charter c.args.spec.now)).answer (g.S.Spec.state c.args.spec.now))
    c.loop-i.i c.args.trails.now.items watches order)

pub loop-i-preserved : goal.loop-i-preserved
loop-i-preserved g c =
    let f = after_state (g.S.Spec.affects c.args.spec.now)
    ((rules_by (g.S.Spec.charter c.args.spec.now)).answer (g.S.Spec.state c.args.spec.now)) in
    let within : c.loop-i.i < length c.args.trails.now.items =
    omega (arith, c.loop-i-test.true, c.requires.within) in
    record {
      changed = changed_next f c.loop-i.i c.args.trails.now.items c.loop-i.trails.items
          c.index_mut.result.now c.see.new.trail within c.loop-i.invariant.changed
          (c.in_ok-see.ensures.saw ∙ ap f c.index_mut.ensures.value);
      within = omega (arith, c.loop-i-test.true);
      steps = omega (arith, c.loop-i.invariant.steps, c.tick.ensures, c.see.ensures.steps);
    }

pub returns-clause-saw : goal.returns-clause-saw
returns-clause-saw g c =
    let affects = g.S.Spec.affects c.args.spec.now in
    let told = (rules_by (g.S.Spec.charter c.args.spec.now)).answer
    (g.S.Spec.state c.args.spec.now) in
    c.loop-i.invariant.changed ∙ changed_enough (after_state affects told) c.loop-i.i
    c.args.trails.now.items
    (λ i t high there. free_stays affects told t
    (c.requires.free i t (omega (arith, high, c.loop-i-test.false)) there))

pub returns-clause-order : goal.returns-clause-order
returns-clause-order g c = λ h watches order. subst (λ ts. AreInOrder h c.args.reach ts watches)
    (sym c.loop-i.invariant.changed)
    (order_after h c.args.reach (g.S.Spec.affects c.args.spec.now)
    ((rules_by (g.S.Spec.charter c.args.spec.now)).answer (g.S.Spec.state c.args.spec.now))
    c.loop-i.i c.args.trails.now.items watches order)

pub returns-clause-answers : goal.returns-clause-answers
returns-clause-answers g c = λ watches.
    let affects = g.S.Spec.affects c.args.spec.now in
    let told = (rules_by (g.S.Spec.charter c.args.spec.now)).answer
    (g.S.Spec.state c.args.spec.now) in
    subst (λ ts. answer_count (map (seen_by ts) watches)
    ≤ answer_count (map (seen_by c.args.trails.now.items) watches) + length watches)
    (sym c.loop-i.invariant.changed) (answers_changed affects told c.loop-i.i
    c.args.trails.now.items watches)

pub returns-clause-kept : goal.returns-clause-kept
returns-clause-kept g c =
    let affects = g.S.Spec.affects c.args.spec.now in
    let told = (rules_by (g.S.Spec.charter c.args.spec.now)).answer
    (g.S.Spec.state c.args.spec.now) in
    subst (λ ts. kept_count ts ≤ kept_count c.args.trails.now.items + length
    c.args.trails.now.items)
    (sym c.loop-i.invariant.changed) (kept_changed affects told c.loop-i.i c.args.trails.now.items)

pub returns-clause-steps : goal.returns-clause-steps
returns-clause-steps = grind arith

pub returns-in_err-see-clause-answers : goal.returns-in_err-see-clause-answers
returns-in_err-see-clause-answers g c = λ watches.
    let affects = g.S.Spec.affects c.args.spec.now in
    let told = (rules_by (g.S.Spec.charter c.args.spec.now)).answer
    (g.S.Spec.state c.args.spec.now) in
    let unchanged = ap (set c.loop-i.trails.items c.loop-i.i)
    (c.in_err-see.ensures.unchanged ∙ c.index_mut.ensures.value)
    ∙ set-get_or c.loop-i.trails.items c.loop-i.i c.index_mut.result.now
    ∙ c.loop-i.invariant.changed in
    subst (λ ts. answer_count (map (seen_by ts) watches)
    ≤ answer_count (map (seen_by c.args.trails.now.items) watches) + length watches)
    (sym unchanged) (answers_changed affects told c.loop-i.i c.args.trails.now.items watches)

pub returns-in_err-see-clause-kept : goal.returns-in_err-see-clause-kept
returns-in_err-see-clause-kept g c =
    let affects = g.S.Spec.affects c.args.spec.now in
    let told = (rules_by (g.S.Spec.charter c.args.spec.now)).answer
    (g.S.Spec.state c.args.spec.now) in
    let unchanged = ap (set c.loop-i.trails.items c.loop-i.i)
    (c.in_err-see.ensures.unchanged ∙ c.index_mut.ensures.value)
    ∙ set-get_or c.loop-i.trails.items c.loop-i.i c.index_mut.result.now
    ∙ c.loop-i.invariant.changed in
    subst (λ ts. kept_count ts ≤ kept_count c.args.trails.now.items + length
    c.args.trails.now.items)
    (sym unchanged) (kept_changed affects told c.loop-i.i c.args.trails.now.items)

pub returns-in_err-see-clause-steps : goal.returns-in_err-see-clause-steps
returns-in_err-see-clause-steps = grind arith
