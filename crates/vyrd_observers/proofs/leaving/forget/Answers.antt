use Rattle.vyrd_observers.proofs.Prelude.{drop, get_or, set, map, subst, ap, sym, ◌∙◌, arith}
use Rattle.vyrd_observers.proofs.Prelude.{slice_get-get_or, must_commit, has_method, AreOn, seen_by}
use Rattle.vyrd_observers.proofs.Prelude.{AreCounted}
use Rattle.vyrd_observers.proofs.AskerLaws.{counted_moved}
use Rattle.vyrd_observers.proofs.CostLaws.{kept_dropped}
use Rattle.vyrd_observers.proofs.TrailLaws.{seen_moved, on_moved, asking_set, old_except_set}
use Rattle.vyrd_observers.proofs.TrailLaws.{stay_set}
use Rattle.vyrd_observers.proofs.CallersSee.{read_is}
use Rattle.vyrd_observers.proofs.leaving.forget.Goals as goal

pub returns-clause-seen : goal.returns-clause-seen
returns-clause-seen g c =
    let trails = c.args.trails.now in
    let t = get_or trails c.args.trail c.index-trails-trail.result in
    ap (λ u. map (seen_by (set trails c.args.trail u)) c.move_all.new.watches.items)
    c.forget.ensures.dropped
    ∙ ap (map (seen_by (set trails c.args.trail (record t { others = drop c.args.n t.others }))))
    c.move_all.ensures.moved
    ∙ seen_moved trails c.args.watches.now.items c.args.trail c.args.n t
    (slice_get-get_or trails c.args.trail c.index-trails-trail.result c.requires.trail)
    c.requires.uncounted

pub returns-clause-on : goal.returns-clause-on
returns-clause-on g c =
    let trails = c.args.trails.now in
    let t = get_or trails c.args.trail c.index-trails-trail.result in
    subst (λ u. AreOn (set trails c.args.trail u) c.move_all.new.watches.items)
    (sym c.forget.ensures.dropped)
    (subst (AreOn (set trails c.args.trail (record t { others = drop c.args.n t.others })))
    (sym c.move_all.ensures.moved)
    (on_moved trails c.args.watches.now.items c.args.trail c.args.n t
    (slice_get-get_or trails c.args.trail c.index-trails-trail.result c.requires.trail)
    c.requires.uncounted c.requires.on))

pub returns-clause-asking : goal.returns-clause-asking
returns-clause-asking g c = λ h all.
    let trails = c.args.trails.now in
    let t = get_or trails c.args.trail c.index-trails-trail.result in
    asking_set h trails c.args.trail c.forget.new.self c.requires.trail
    (λ is. let was = all c.args.trail t
    (slice_get-get_or trails c.args.trail c.index-trails-trail.result c.requires.trail)
    (ap (λ u. u.is_asked) (sym c.forget.ensures.dropped) ∙ is) in (
      ap (λ u. has_method h u.method u.args) c.forget.ensures.dropped ∙ was.0,
      ap (λ u. must_commit u.method) c.forget.ensures.dropped ∙ was.1,
    ))
    all

pub returns-clause-only : goal.returns-clause-only
returns-clause-only g c = old_except_set c.args.trails.now c.args.trail c.forget.new.self

pub returns-clause-stay : goal.returns-clause-stay
returns-clause-stay g c =
    let trails = c.args.trails.now in
    let t = get_or trails c.args.trail c.index-trails-trail.result in
    stay_set trails c.args.trail t c.forget.new.self
    (slice_get-get_or trails c.args.trail c.index-trails-trail.result c.requires.trail)
    (λ is. (
      ap (λ u. u.is_asked) (sym c.forget.ensures.dropped) ∙ is,
      ap (λ u. u.method) c.forget.ensures.dropped,
      ap (λ u. u.args) c.forget.ensures.dropped,
      ap (λ u. u.latest) c.forget.ensures.dropped,
    ))

pub returns-clause-counted : goal.returns-clause-counted
returns-clause-counted g c = λ counted.
    let trails = c.args.trails.now in
    let t = get_or trails c.args.trail c.index-trails-trail.result in
    subst (AreCounted (set trails c.args.trail c.forget.new.self)) (sym c.move_all.ensures.moved)
    (counted_moved trails c.args.watches.now.items c.args.trail c.args.n t c.forget.new.self
    (slice_get-get_or trails c.args.trail c.index-trails-trail.result c.requires.trail)
    (ap (λ u. u.askers) c.forget.ensures.dropped) counted)

pub returns-clause-kept : goal.returns-clause-kept
returns-clause-kept g c =
    let trails = c.args.trails.now in
    let d = c.index-trails-trail.result in
    let t = get_or trails c.args.trail d in
    kept_dropped trails c.args.trail c.args.n d c.forget.new.self c.requires.trail
    c.forget.ensures.dropped
    (c.requires.within t (slice_get-get_or trails c.args.trail d c.requires.trail))

pub returns-clause-steps : goal.returns-clause-steps
returns-clause-steps g c =
    λ t there. grind (
      arith,
      c.forget.ensures.steps,
      c.move_all.ensures.steps,
      read_is
          c.args.trails.now c.args.trail t c.index-trails-trail.result there c.index-trails-trail.is,
      c.index-trails-trail.is,
    )
