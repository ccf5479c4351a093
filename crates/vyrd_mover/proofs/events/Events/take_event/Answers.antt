use Rattle.vyrd_mover.proofs.Prelude.{refl, ap, sym, ◌∙◌, subst, unless_broken, HaveReadOn}
use Rattle.vyrd_mover.proofs.EventsReadLaws.{counted, broken, may_follow, below_callers, in_ledger}
use Rattle.vyrd_mover.proofs.events.Events.take_event.Goals as goal

pub returns-in-Some-clause-err : goal.returns-in-Some-clause-err
returns-in-Some-clause-err c = λ r have.
    let s = c.args.self.now.ledger in
    let t = c.args.self.now.checker in
    let e = c.args.event in
    let number = counted s t r e have c.requires.counted in
    let rule = broken s t r e have
    ∙ sym (c.broken_rule.ensures r.history have.remembers number) ∙ c.in-Some.is in
    (refl, ap (unless_broken r e) rule)

pub take-requires : goal.take-requires
take-requires c =
    let s = c.args.self.now.ledger in
    let t = c.args.self.now.checker in
    let r = c.requires.some.recorded in
    let have = c.requires.some.have in
    let e = c.args.event in
    let number = counted s t r e have c.requires.counted in
    let none = broken s t r e have
    ∙ sym (c.broken_rule.ensures r.history have.remembers number) ∙ c.in_default.is in
    let next = may_follow s t r e have none in
    record { legal = record { history = r.history; taken = have.taken; next = next } }

pub put-requires-clause-caller : goal.put-requires-clause-caller
put-requires-clause-caller c =
    let s = c.args.self.now.ledger in
    let t = c.args.self.now.checker in
    let r = c.requires.some.recorded in
    let have = c.requires.some.have in
    let e = c.args.event in
    let number = counted s t r e have c.requires.counted in
    let none = broken s t r e have
    ∙ sym (c.broken_rule.ensures r.history have.remembers number) ∙ c.in_default.is in
    below_callers s t r e have (may_follow s t r e have none)

pub put-requires-clause-in_range : goal.put-requires-clause-in_range
put-requires-clause-in_range c =
    let s = c.args.self.now.ledger in
    let t = c.args.self.now.checker in
    let r = c.requires.some.recorded in
    let have = c.requires.some.have in
    let e = c.args.event in
    let number = counted s t r e have c.requires.counted in
    let none = broken s t r e have
    ∙ sym (c.broken_rule.ensures r.history have.remembers number) ∙ c.in_default.is in
    in_ledger s t r e have (may_follow s t r e have none)

pub returns-in-Ok-clause-ok : goal.returns-in-Ok-clause-ok
returns-in-Ok-clause-ok c = λ r have.
    let s = c.args.self.now.ledger in
    let t = c.args.self.now.checker in
    let e = c.args.event in
    let number = counted s t r e have c.requires.counted in
    let rule = sym (c.broken_rule.ensures r.history have.remembers number) ∙ c.in_default.is in
    let none = broken s t r e have ∙ rule in
    subst (HaveReadOn c.put.new.self c.take.new.self) (sym (ap (unless_broken r e) none)) (record {
      header = c.put.ensures.header ∙ have.header;
      same = c.take.ensures.header ∙ have.same;
      remembers = c.put.ensures.remembers r.history have.remembers rule;
      taken = c.in-Ok.ensures.taken r.history have.taken (may_follow s t r e have none);
    })
