use Rattle.vyrd_observers.proofs.Prelude
use Prelude.{◌<◌, List, Some, None, length, set, drop, refl, subst, ap, sym, ◌∙◌, arith, map-set}
use Prelude.{length-set, slice_get_within, written_back, slice_get-is, slice_get-set_same, Asked}
use Prelude.{OthersAreUsed, seen_by, kept_count, AreCountedBefore, AreFreeFrom, Closes}
use Rattle.vyrd_base.proofs.ListLaws.{is_none}
use Rattle.vyrd_observers.proofs.TrailLaws.{on_set, used_without, stay_all}
use Rattle.vyrd_observers.proofs.CallersSee.{closed_stays}
use Rattle.vyrd_observers.proofs.AskerLaws.{counted_without, free_closed}
use Rattle.vyrd_observers.proofs.leaving.close.Goals as goal

pub let_go-requires-clause-trail : goal.let_go-requires-clause-trail
let_go-requires-clause-trail g c =
    let here = slice_get-is c.args.watches.now.items c.args.caller c.index.result.now
    c.requires.caller c.index.ensures ∙ ap Some c.in-Some.is in
    let was = c.requires.on c.args.caller c.in-Some.watch here in
    subst (λ (ts : List Asked). c.in-Some.watch.trail < length ts) (sym c.deref_mut.ensures.value)
    (slice_get_within c.args.trails.now.items c.in-Some.watch.trail was.asked was.there)

pub let_go-requires-clause-on : goal.let_go-requires-clause-on
let_go-requires-clause-on = grind (arith, on_set)

pub let_go-requires-clause-used : goal.let_go-requires-clause-used
let_go-requires-clause-used g c =
    let watches = c.args.watches.now.items in
    let here = slice_get-is watches c.args.caller c.index.result.now c.requires.caller
    c.index.ensures ∙ ap Some c.in-Some.is in
    subst (λ (ts : List Asked). OthersAreUsed ts (set watches c.args.caller None)
    c.in-Some.watch.trail) (sym c.deref_mut.ensures.value)
    (used_without c.args.trails.now.items watches c.args.caller c.in-Some.watch here
    c.requires.used)

pub let_go-requires-clause-counted : goal.let_go-requires-clause-counted
let_go-requires-clause-counted g c =
    let watches = c.args.watches.now.items in
    let here = slice_get-is watches c.args.caller c.index.result.now c.requires.caller
    c.index.ensures ∙ ap Some c.in-Some.is in
    subst (λ (ts : List Asked). AreCountedBefore c.in-Some.watch.trail ts
    (set watches c.args.caller None)) (sym c.deref_mut.ensures.value)
    (counted_without c.args.trails.now.items watches c.args.caller c.in-Some.watch here
    c.requires.counted)

pub reach_of-requires-clause-free : goal.reach_of-requires-clause-free
reach_of-requires-clause-free g c =
    let back = written_back c.args.trails.now.len c.let_go.new.trails
    (drop (length c.let_go.new.trails) c.args.trails.now.items)
    (c.let_go.auto.trails ∙ c.deref_mut.ensures.len) in
    subst (AreFreeFrom c.args.reach.now) (sym (c.deref.ensures.value ∙ back))
    (free_closed c.args.reach.now c.deref_mut.result.now c.let_go.new.trails c.let_go.ensures.stay
    c.let_go.auto.trails
    (subst (AreFreeFrom c.args.reach.now) (sym c.deref_mut.ensures.value) c.requires.free))

pub returns-in-Some-clause-closes : goal.returns-in-Some-clause-closes
returns-in-Some-clause-closes g c =
    let watches = c.args.watches.now.items in
    let back = written_back c.args.trails.now.len c.let_go.new.trails
    (drop (length c.let_go.new.trails) c.args.trails.now.items)
    (c.let_go.auto.trails ∙ c.deref_mut.ensures.len) in
    subst (λ (ts : List Asked). Closes c.args.caller c.args.trails.now.items ts watches
    c.let_go.new.watches.items c.reach_of.result) (sym back)
    (subst (λ (ts : List Asked). Closes c.args.caller ts c.let_go.new.trails watches
    c.let_go.new.watches.items c.reach_of.result)
    c.deref_mut.ensures.value (record {
      seen = c.let_go.ensures.seen ∙ map-set (seen_by c.deref_mut.result.now) watches c.args.caller
          None;
      none = c.let_go.ensures.closed c.args.caller
          (slice_get-set_same watches c.args.caller None c.requires.caller);
      on = c.let_go.ensures.on;
      used = c.let_go.ensures.used;
      counted = c.let_go.ensures.counted;
      asking = c.let_go.ensures.asking;
      stay = c.let_go.ensures.stay;
      trails = c.let_go.auto.trails;
      within = omega (
        arith,
        c.reach_of.ensures.within,
        c.requires.within,
        c.let_go.auto.trails,
        ap length
            c.deref_mut.ensures.value,
      );
      free = subst (AreFreeFrom c.reach_of.result) (c.deref.ensures.value ∙ back)
          c.reach_of.ensures.free;
    }))

pub returns-in_default-clause-closes : goal.returns-in_default-clause-closes
returns-in_default-clause-closes g c =
    let watches = c.args.watches.now.items in
    let here = slice_get-is watches c.args.caller c.index.result.now c.requires.caller
    c.index.ensures
    ∙ ap Some (is_none c.index.result.now (λ w is. c.in_default.not-Some w is)) in
    record {
      seen = closed_stays c.args.trails.now.items watches c.args.caller here;
      none = here;
      on = c.requires.on;
      used = c.requires.used;
      counted = c.requires.counted;
      asking = λ h all. all;
      stay = stay_all c.args.trails.now.items;
      trails = refl;
      within = c.requires.within;
      free = c.requires.free;
    }

pub returns-in-Some-clause-steps : goal.returns-in-Some-clause-steps
returns-in-Some-clause-steps g c =
    let back = written_back c.args.trails.now.len c.let_go.new.trails
    (drop (length c.let_go.new.trails) c.args.trails.now.items)
    (c.let_go.auto.trails ∙ c.deref_mut.ensures.len) in
    let new = ap kept_count back in
    let old = ap kept_count c.deref_mut.ensures.value in
    let long = length-set c.args.watches.now.items c.args.caller None in
    omega (
      arith,
      c.let_go.ensures.steps,
      c.reach_of.ensures.steps,
      c.requires.within,
      new,
      old,
      long,
    )
