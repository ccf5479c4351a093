use Rattle.vyrd_observers.proofs.Prelude.{◌≡◌, ◌+◌, ◌*◌, ◌≤◌, Some, None, ◌∷◌, length, set, drop}
use Rattle.vyrd_observers.proofs.Prelude.{slice_get, subst, ap, sym, ◌∙◌, arith, slice_get_within}
use Rattle.vyrd_observers.proofs.Prelude.{Watched, KeepsFew, Seen, unwatched, has_answer, Asked}
use Rattle.vyrd_observers.proofs.Prelude.{seen_from, owed, seen_by, same_Some}
use Rattle.vyrd_observers.proofs.CostLaws.{owed_by, owed_ended}
use Rattle.vyrd_observers.proofs.CallersSee.{read_is, watch_read, seen_there, closed_stays}
use Rattle.vyrd_observers.proofs.TrailCounts.{keeps_few, order_closed}
use Rattle.vyrd_observers.proofs.watches.Watches.end_counted.Goals as goal

pub index-requires-in-Some : goal.index-requires-in-Some
index-requires-in-Some g c =
    let trails = c.self.inside.trails.items in
    let here = watch_read trails c.self.inside.by_caller.items c.args.self.now.by_caller
    c.args.caller c.index.result.now (Some c.in-Some.watch)
    (ap (λ (k : Watched). k.by_caller) c.self.view_is) c.requires.caller c.index.ensures
    c.in-Some.is in
    let was = c.self.invariant.on c.args.caller c.in-Some.watch here in
    omega (
      arith,
      slice_get_within trails c.in-Some.watch.trail was.asked
          was.there,
      c.self.inside.trails.ok.0,
    )

pub has_answer-answered-requires : goal.has_answer-answered-requires
has_answer-answered-requires g c =
    let trails = c.self.inside.trails.items in
    let here = watch_read trails c.self.inside.by_caller.items c.args.self.now.by_caller
    c.args.caller c.index.result.now (Some c.in-Some.watch)
    (ap (λ (k : Watched). k.by_caller) c.self.view_is) c.requires.caller c.index.ensures
    c.in-Some.is in
    let was = c.self.invariant.on c.args.caller c.in-Some.watch here in
    let is : was.asked ≡ c.index-in-Some.result.now = read_is trails c.in-Some.watch.trail was.asked
    c.index-in-Some.result.now was.there c.index-in-Some.ensures in
    subst (λ (t : Asked). c.in-Some.watch.since ≤ length t.others) is was.within

pub returns-in-Some-clause-answered : goal.returns-in-Some-clause-answered
returns-in-Some-clause-answered g c = λ seen there.
    let trails = c.self.inside.trails.items in
    let w = c.in-Some.watch in
    let here = watch_read trails c.self.inside.by_caller.items c.args.self.now.by_caller
    c.args.caller c.index.result.now (Some w)
    (ap (λ (k : Watched). k.by_caller) c.self.view_is) c.requires.caller c.index.ensures
    c.in-Some.is in
    let was = c.self.invariant.on c.args.caller w here in
    let is : was.asked ≡ c.index-in-Some.result.now = read_is trails w.trail was.asked
    c.index-in-Some.result.now was.there c.index-in-Some.ensures in
    let same : seen_from w.since (slice_get trails w.trail) ≡ seen = same_Some _ _
    (sym (seen_there trails c.self.inside.by_caller.items c.args.caller (Some w) here)
    ∙ ap (λ (k : Watched). slice_get k.by_caller c.args.caller) c.self.view_is ∙ there) in
    c.has_answer-answered.ensures.answered
    ∙ ap (λ (t : Asked). has_answer (t.latest ∷ drop w.since t.others) c.args.reply) (sym is)
    ∙ ap (λ o. has_answer (seen_from w.since o).answers c.args.reply) (sym was.there)
    ∙ ap (λ (s : Seen). has_answer s.answers c.args.reply) same

pub invariant_of-self : goal.invariant_of-self
invariant_of-self g c = search (order_closed, arith)

pub returns-in-Some-clause-watches : goal.returns-in-Some-clause-watches
returns-in-Some-clause-watches g c = grind (arith, c.close.ensures.closes.seen, c.self.view_is)

pub returns-in-Some-clause-keeps_few : goal.returns-in-Some-clause-keeps_few
returns-in-Some-clause-keeps_few g c = keeps_few c.self.inside.header c.close.new.reach
    c.close.new.trails.items c.close.new.watches.items
    (order_closed c.self.inside.header c.args.caller c.self.inside.trails.items
    c.close.new.trails.items c.self.inside.by_caller.items
    c.close.new.watches.items c.self.inside.reach c.close.new.reach c.close.ensures.closes
    c.self.invariant)

pub returns-in-None-clause-answered : goal.returns-in-None-clause-answered
returns-in-None-clause-answered g c = λ seen there.
    let here = watch_read c.self.inside.trails.items c.self.inside.by_caller.items
    c.args.self.now.by_caller c.args.caller c.index.result.now None
    (ap (λ (k : Watched). k.by_caller) c.self.view_is) c.requires.caller c.index.ensures
    c.in-None.is in
    let is : unwatched ≡ seen = same_Some _ _
    (sym (seen_there c.self.inside.trails.items c.self.inside.by_caller.items c.args.caller None
    here)
    ∙ ap (λ (k : Watched). slice_get k.by_caller c.args.caller) c.self.view_is ∙ there) in
    ap (λ (s : Seen). has_answer s.answers c.args.reply) is

pub returns-in-None-clause-watches : goal.returns-in-None-clause-watches
returns-in-None-clause-watches g c =
    let here = watch_read c.self.inside.trails.items c.self.inside.by_caller.items
    c.args.self.now.by_caller c.args.caller c.index.result.now None
    (ap (λ (k : Watched). k.by_caller) c.self.view_is) c.requires.caller c.index.ensures
    c.in-None.is in
    ap (λ (k : Watched). k.by_caller) (sym c.self.view_is)
    ∙ closed_stays c.self.inside.trails.items c.self.inside.by_caller.items c.args.caller here
    ∙ ap (λ (k : Watched). set k.by_caller c.args.caller unwatched) c.self.view_is

pub returns-in-None-clause-keeps_few : goal.returns-in-None-clause-keeps_few
returns-in-None-clause-keeps_few g c = subst (λ (w : Watched). KeepsFew w) c.self.view_is
    (keeps_few c.self.inside.header c.self.inside.reach c.self.inside.trails.items
    c.self.inside.by_caller.items c.self.invariant)

pub returns-in-Some-clause-steps : goal.returns-in-Some-clause-steps
returns-in-Some-clause-steps g c =
    let trails = c.self.inside.trails.items in
    let watches = c.self.inside.by_caller.items in
    let w = c.in-Some.watch in
    let here = watch_read trails watches c.args.self.now.by_caller c.args.caller c.index.result.now
    (Some w)
    (ap (λ (k : Watched). k.by_caller) c.self.view_is) c.requires.caller c.index.ensures
    c.in-Some.is in
    let was = c.self.invariant.on c.args.caller w here in
    let is : was.asked ≡ c.index-in-Some.result.now = read_is trails w.trail was.asked
    c.index-in-Some.result.now was.there c.index-in-Some.ensures in
    let long : length (seen_by trails (Some w)).answers
    ≡ length (c.index-in-Some.result.now.latest ∷ drop w.since c.index-in-Some.result.now.others)
    = ap (λ o. length (seen_from w.since o).answers) was.there
    ∙ ap (λ (t : Asked). length (t.latest ∷ drop w.since t.others)) is in
    subst (λ (k : Watched). c.close.new.steps + owed_by c.close.new.trails.items
    c.close.new.watches.items
    ≤ c.args.steps.now + owed k + 3 * k.header.callers) c.self.view_is
    (owed_ended c.self.inside.header c.args.caller trails c.close.new.trails.items watches
    c.close.new.watches.items c.self.inside.reach c.close.new.reach c.args.steps.now
    c.has_answer-answered.new.steps c.close.new.steps
    (seen_by trails (Some w)) c.close.ensures.closes c.self.invariant
    (seen_there trails watches c.args.caller (Some w) here)
    (omega (arith, c.has_answer-answered.ensures.steps, long)) c.close.ensures.steps)
