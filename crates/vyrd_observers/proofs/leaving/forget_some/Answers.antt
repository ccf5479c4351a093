use Rattle.vyrd_observers.proofs.Prelude.{List, Option, length, slice_get, subst, ap, sym, ◌∙◌}
use Rattle.vyrd_observers.proofs.Prelude.{arith, option_map, slice_get-map, Watch, Asked, AreOn}
use Rattle.vyrd_observers.proofs.Prelude.{AreUsed, moved}
use Rattle.vyrd_observers.proofs.TrailLaws.{used_moved, used_still, stay_all, counted_within}
use Rattle.vyrd_observers.proofs.CallersSee.{read_is}
use Rattle.vyrd_observers.proofs.leaving.forget_some.Goals as goal

pub forget-requires-clause-within : goal.forget-requires-clause-within
forget-requires-clause-within = grind (arith, counted_within)

pub returns-then-len-n-clause-used : goal.returns-then-len-n-clause-used
returns-then-len-n-clause-used g c = let one = c.in-Some.ensures.asks in
    subst (λ (ws : List (Option Watch)). AreUsed c.forget.new.trails ws)
    (sym c.forget.ensures.moved)
    (used_moved c.args.trails.now c.forget.new.trails c.args.watches.now.items c.args.trail
    c.in-Some.n one.0
    (ap (λ (ws : List (Option Watch)). slice_get ws one.0) (sym c.deref.ensures.value) ∙ one.1)
    c.forget.ensures.only
    (subst (AreOn c.forget.new.trails) c.forget.ensures.moved c.forget.ensures.on) c.requires.used)

pub returns-then-len-n-clause-closed : goal.returns-then-len-n-clause-closed
returns-then-len-n-clause-closed g c = λ d here.
    ap (λ (ws : List (Option Watch)). slice_get ws d) c.forget.ensures.moved
    ∙ slice_get-map (moved c.args.trail c.in-Some.n) c.args.watches.now.items d
    ∙ ap (option_map (moved c.args.trail c.in-Some.n)) here

pub returns-else-len-n-clause-used : goal.returns-else-len-n-clause-used
returns-else-len-n-clause-used g c = let one = c.in-Some.ensures.asks in
    used_still c.args.trails.now c.args.watches.now.items c.args.trail c.in-Some.n one.0
    (ap (λ (ws : List (Option Watch)). slice_get ws one.0) (sym c.deref.ensures.value) ∙ one.1)
    (λ t there. let it = read_is c.args.trails.now c.args.trail t c.index-trails-trail.result there
    c.index-trails-trail.is
    ∙ c.index-trails-trail.is in
    omega (arith, c.if-len-n.false, c.len.ensures, ap (λ (u : Asked). length u.others) it))
    c.requires.on c.requires.used

pub returns-else-len-n-clause-stay : goal.returns-else-len-n-clause-stay
returns-else-len-n-clause-stay g c = stay_all c.args.trails.now

-- some observer asks the trail, so the place isn't missing
pub returns-in_default : goal.returns-in_default
returns-in_default = grind arith
