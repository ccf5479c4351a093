use Rattle.vyrd_live.proofs.Prelude.{◌≡◌, ℕ, suc, ◌+◌, take, sym, ap, ◌∙◌, subst, arith, take-suc}
use Rattle.vyrd_live.proofs.Prelude.{HasTakenAll, none_taken, one_more}
use Rattle.vyrd_live.proofs.watch.Watch.take_all.Goals as goal

pub loop-event-init : goal.loop-event-init
loop-event-init g c = none_taken g.S.EventSink.has_taken g.S.EventSink.fixed c.args.self.now

pub loop-event-preserved : goal.loop-event-preserved
loop-event-preserved g c =
    let i = c.loop-event.event-index in
    let next : i + 1 ≡ suc i = omega arith in
    let t = c.take_in.ensures in
    subst (HasTakenAll g.S.EventSink.has_taken g.S.EventSink.fixed c.args.self.now
    c.take_in.new.self)
    (sym (ap (λ (n : ℕ). take n c.args.events.now) next
    ∙ take-suc c.args.events.now i _ c.loop-event-test.true))
    (one_more g.S.EventSink.has_taken g.S.EventSink.fixed _ _ _ _ _ c.loop-event.invariant t.same
    t.watched t.fixed t.set_aside t.stays
    t.callers t.counted)
