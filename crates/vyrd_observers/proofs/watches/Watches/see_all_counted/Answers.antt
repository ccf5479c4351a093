use Rattle.vyrd_observers.proofs.Prelude.{rules_by, length, map, slice_get, subst, ap, sym, ◌∙◌}
use Rattle.vyrd_observers.proofs.Prelude.{arith, length-map, Watched, AreCurrent, AllSee, AreAsking}
use Rattle.vyrd_observers.proofs.Prelude.{after_state, seen_by}
use Rattle.vyrd_observers.proofs.SeeingLaws.{seen_all, seen_current}
use Rattle.vyrd_observers.proofs.CallersSee.{callers_see}
use Rattle.vyrd_observers.proofs.TrailCounts.{keeps_few}
use Rattle.vyrd_observers.proofs.watches.Watches.see_all_counted.Goals as goal

pub see_all-requires : goal.see_all-requires
see_all-requires g c = record {
  within = c.self.invariant.within;
  free = c.self.invariant.free;
  asking = subst (λ h. AreAsking h c.self.inside.trails.items)
      (ap (λ (k : Watched). k.header) c.self.view_is ∙ sym c.requires.header)
      c.self.invariant.asking;
}

pub invariant_of-self : goal.invariant_of-self
invariant_of-self g c = c.see_all.ensures.order c.self.inside.header c.self.inside.by_caller.items
    c.self.invariant

pub returns-in_err-see_all-clause-keeps_few : goal.returns-in_err-see_all-clause-keeps_few
returns-in_err-see_all-clause-keeps_few g c = keeps_few c.self.inside.header c.self.inside.reach
    c.see_all.new.trails.items c.self.inside.by_caller.items
    (c.see_all.ensures.order c.self.inside.header c.self.inside.by_caller.items c.self.invariant)

pub invariant_of-self-2 : goal.invariant_of-self-2
invariant_of-self-2 g c = c.see_all.ensures.order c.self.inside.header c.self.inside.by_caller.items
    c.self.invariant

pub returns-clause-keeps_few : goal.returns-clause-keeps_few
returns-clause-keeps_few g c = keeps_few c.self.inside.header c.self.inside.reach
    c.see_all.new.trails.items c.self.inside.by_caller.items
    (c.see_all.ensures.order c.self.inside.header c.self.inside.by_caller.items c.self.invariant)

pub returns-clause-seen : goal.returns-clause-seen
returns-clause-seen g c =
    let told = (rules_by (g.S.Spec.charter c.args.spec.now)).answer
    (g.S.Spec.state c.args.spec.now) in
    let watches = c.self.inside.by_caller.items in
    let old = map (seen_by c.self.inside.trails.items) watches in
    let see = callers_see (g.S.Spec.affects c.args.spec.now) told c.self.inside.trails.items watches
    c.self.invariant.on
    (λ d seen here is_open untouched. c.requires.current d seen
    (ap (λ (k : Watched). slice_get k.by_caller d) (sym c.self.view_is) ∙ here) is_open
    untouched) in
    subst (λ (k : Watched). AllSee told k.by_caller
    (map (seen_by c.see_all.new.trails.items) watches)) c.self.view_is
    (subst (λ ts. AllSee told old (map (seen_by ts) watches)) (sym c.in_ok-see_all.ensures.saw)
    (seen_all told (length watches) old
    (map (seen_by
    (map (after_state (g.S.Spec.affects c.args.spec.now) told) c.self.inside.trails.items)) watches)
    (omega (arith, length-map watches (seen_by c.self.inside.trails.items))) see))

pub returns-clause-current : goal.returns-clause-current
returns-clause-current g c =
    let told = (rules_by (g.S.Spec.charter c.args.spec.now)).answer
    (g.S.Spec.state c.args.spec.now) in
    let watches = c.self.inside.by_caller.items in
    let trails = c.self.inside.trails.items in
    let old = map (seen_by trails) watches in
    let new = map (seen_by (map (after_state (g.S.Spec.affects c.args.spec.now) told) trails))
    watches in
    let see = callers_see (g.S.Spec.affects c.args.spec.now) told trails watches c.self.invariant.on
    (λ d seen here is_open untouched. c.requires.current d seen
    (ap (λ (k : Watched). slice_get k.by_caller d) (sym c.self.view_is) ∙ here) is_open
    untouched) in
    subst (λ ts. AreCurrent told (map (seen_by ts) watches)) (sym c.in_ok-see_all.ensures.saw)
    (seen_current told (length watches) old new
    (omega (arith, length-map watches (seen_by trails)))
    (length-map watches (seen_by (map (after_state (g.S.Spec.affects c.args.spec.now) told) trails))
    ∙ sym (length-map watches (seen_by trails))) see)
