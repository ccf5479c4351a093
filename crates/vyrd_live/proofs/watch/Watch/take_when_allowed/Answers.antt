use Rattle.vyrd_live.proofs.Prelude.{ap, sym, ◌∙◌, with_popped, goes_on_with}
use Rattle.vyrd_live.proofs.watch.Watch.take_when_allowed.Goals as goal

pub returns-clause-goes_on : goal.returns-clause-goes_on
returns-clause-goes_on g c =
    let t = c.take_all_when_allowed.ensures in
    goes_on_with g.S.EventSink.has_taken g.S.EventSink.fixed c.args.self.now
    c.take_all_when_allowed.new.self c.events.result.now
    (t.same ∙ c.in-Some.ensures.events ∙ ap (with_popped c.args.self.now.receiver)
    (sym c.events.ensures))
    (t.watched c.args.self.now.receiver.had) t.fixed_is t.callers t.counted

pub returns-clause-one : goal.returns-clause-one
returns-clause-one g c =
    let t = c.take_all_when_allowed.ensures in
    λ _. (
      c.events.result.now,
      t.same ∙ c.in-Some.ensures.events ∙ ap (with_popped c.args.self.now.receiver)
          (sym c.events.ensures),
      λ stood fell. let s = t.set_aside stood fell in record {
        front = s.front;
        event = s.event;
        behind = s.behind;
        whole = s.whole;
        last = s.last;
        stood = s.stood;
        watched = s.watched;
        may_refuse = s.may_refuse;
      },
    )
