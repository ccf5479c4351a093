use Rattle.vyrd_mover.proofs.Prelude.{refl, sym, ◌∙◌, subst, OnOk, HaveReadOn}
use Rattle.vyrd_mover.proofs.EventLaws.{event_in_sound}
use Rattle.vyrd_mover.proofs.EventsReadLaws.{line_says}
use Rattle.vyrd_mover.proofs.events.Events.take_line.Goals as goal

pub returns-in_default-clause-err : goal.returns-in_default-clause-err
returns-in_default-clause-err c = λ r have. (
  refl,
  line_says c.args.self.now.ledger c.args.self.now.checker r c.subject.result c.len.result
      c.args.line.now have c.subject.ensures c.len.ensures _
      (sym c.read_event.ensures ∙ c.in_default.is),
)

pub take_event-requires-clause-counted : goal.take_event-requires-clause-counted
take_event-requires-clause-counted c =
    let is = event_in_sound c.subject.result c.len.result c.args.line.now c.in-Some.event
    (sym c.read_event.ensures ∙ c.in-Some.is) in
    is.numbered ∙ c.len.ensures

pub returns-clause-ok : goal.returns-clause-ok
returns-clause-ok c = λ r have.
    let new = c.take_event.new.self in
    let says = line_says c.args.self.now.ledger c.args.self.now.checker r c.subject.result
    c.len.result c.args.line.now have c.subject.ensures c.len.ensures _
    (sym c.read_event.ensures ∙ c.in-Some.is) in
    subst (λ read. OnOk c.take_event.result (HaveReadOn new.ledger new.checker read)) (sym says)
    (c.take_event.ensures.ok r have)

pub returns-clause-err : goal.returns-clause-err
returns-clause-err c = λ r have.
    let says = line_says c.args.self.now.ledger c.args.self.now.checker r c.subject.result
    c.len.result c.args.line.now have c.subject.ensures c.len.ensures _
    (sym c.read_event.ensures ∙ c.in-Some.is) in
    rw says (c.take_event.ensures.err r have)
