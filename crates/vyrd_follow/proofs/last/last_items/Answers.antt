use Rattle.vyrd_follow.proofs.Prelude.{rules, ◌≡◌, ◌++◌, refl, ap, ◌∙◌, sym, arith, map, filter_map}
use Rattle.vyrd_follow.proofs.Prelude.{IfOk-weaker, run_by, placed_at, done_before, last_item}
use Rattle.vyrd_states.proofs.RunLaws.{known_first}
use Rattle.vyrd_follow.proofs.LastLaws.{none_set, done_next, there_in}
use Rattle.vyrd_follow.proofs.last.last_items.Goals as goal

pub loop-p-init : goal.loop-p-init
loop-p-init g c = record {
  known = known_first (g.S.Spec.charter c.args.spec) c.args.starting.now c.args.front.now
      (run_by g.S.Spec.charter g.S.Spec.state g.S.Spec.made c.args.spec) (sym c.requires.state)
      refl c.requires.made;
  count = c.in_ok-last.ensures.len;
  last = c.in_ok-last.ensures.items_if_clones_equal (λ y e. search rules)
      ∙ none_set c.args.items.now;
}

pub loop-p-preserved : goal.loop-p-preserved
loop-p-preserved g c =
    let charter = g.S.Spec.charter c.args.spec in
    let starting = c.args.starting.now in
    let front = c.args.front.now in
    let p = c.loop-p.p in
    let items = c.args.items.now in
    let known = c.loop-p.invariant.known in
    let done = c.deref.ensures.value ∙ c.in_ok-spec.ensures.done charter starting known in
    record {
      known = c.in_ok-spec.ensures.next charter starting known;
      count = c.note_all.ensures.count;
      last = c.note_all.ensures.last (done_before charter starting front p) c.loop-p.invariant.last
          ∙ ap (λ steps. map (last_item steps) items)
          (ap (λ xs. done_before charter starting front p ++ map (placed_at p) xs) done
          ∙ done_next charter starting front p);
    }

pub returns : goal.returns
returns g c =
    let charter = g.S.Spec.charter c.args.spec in
    let starting = c.args.starting.now in
    let front = c.args.front.now in
    let items = c.args.items.now in
    let there : c.loop-p.p ≡ c.args.at =
    omega (arith, c.loop-p-test.false, c.loop-p.auto.p-end) in
    IfOk-weaker c.found_in.result _ _
    (λ found is. is ∙ ap (filter_map (λ o. o)) (c.deref-2.ensures.value ∙ c.loop-p.invariant.last)
    ∙ there_in (last_item (done_before charter starting front c.loop-p.p)) items
    ∙ ap (λ n. filter_map (last_item (done_before charter starting front n)) items) there)
    c.found_in.ensures
