use Rattle.vyrd_observers.proofs.Prelude.{◌+◌, ◌*◌, ◌≤◌, set, ap, subst, ◌∙◌, Watched, unwatched}
use Rattle.vyrd_observers.proofs.Prelude.{owed}
use Rattle.vyrd_observers.proofs.CostLaws.{owed_by, owed_closed}
use Rattle.vyrd_observers.proofs.TrailCounts.{keeps_few, order_closed}
use Rattle.vyrd_observers.proofs.watches.Watches.close_counted.Goals as goal

pub invariant_of-self : goal.invariant_of-self
invariant_of-self g c =
    order_closed c.self.inside.header c.args.caller c.self.inside.trails.items
    c.close.new.trails.items c.self.inside.by_caller.items c.close.new.watches.items
    c.self.inside.reach c.close.new.reach c.close.ensures.closes c.self.invariant

pub returns-clause-watches : goal.returns-clause-watches
returns-clause-watches g c = c.close.ensures.closes.seen
    ∙ ap (λ (k : Watched). set k.by_caller c.args.caller unwatched) c.self.view_is

pub returns-clause-keeps_few : goal.returns-clause-keeps_few
returns-clause-keeps_few g c =
    keeps_few c.self.inside.header c.close.new.reach c.close.new.trails.items
    c.close.new.watches.items
    (order_closed c.self.inside.header c.args.caller c.self.inside.trails.items
    c.close.new.trails.items c.self.inside.by_caller.items c.close.new.watches.items
    c.self.inside.reach c.close.new.reach c.close.ensures.closes c.self.invariant)

pub returns-clause-steps : goal.returns-clause-steps
returns-clause-steps g c =
    subst (λ (k : Watched). c.close.new.steps + owed_by c.close.new.trails.items
    c.close.new.watches.items
    ≤ c.args.steps.now + owed k + 3 * k.header.callers) c.self.view_is
    (owed_closed c.self.inside.header c.args.caller c.self.inside.trails.items
    c.close.new.trails.items c.self.inside.by_caller.items
    c.close.new.watches.items c.self.inside.reach c.close.new.reach c.args.steps.now
    c.close.new.steps
    c.close.ensures.closes c.self.invariant c.close.ensures.steps)
