use Rattle.vyrd_mover.proofs.Prelude.{◌∙◌, ap, sym, refused}
use Rattle.vyrd_mover.proofs.LinesLaws.{ends_first, ends_later, at_later}
use Rattle.vyrd_mover.proofs.lines.Lines.finish.Goals as goal

pub returns-in_default-events-clause-refused : goal.returns-in_default-events-clause-refused
returns-in_default-events-clause-refused c = λ bytes at.
    ends_first c.args.self.now bytes c.args.unfinished.now c.in_default.is c.in_default-events.is at
    c.requires.one_line
    ∙ ap (refused 1) (sym c.unfinished_rule.ensures)

pub returns-then-not-self-clause-refused : goal.returns-then-not-self-clause-refused
returns-then-not-self-clause-refused c = λ bytes at.
    let h = c.if-not-self.true in
    ends_later c.args.self.now c.in-Some-events.events bytes c.args.unfinished.now c.in_default.is
    c.in-Some-events.is h at c.requires.one_line
    ∙ ap (refused c.args.self.now.line) (sym c.unfinished_rule-then-not-self.ensures)

pub finish_ended-requires : goal.finish_ended-requires
finish_ended-requires c =
    let f = at_later c.args.self.now c.in-Some-events.events c.requires.somewhere.bytes
    c.in_default.is c.in-Some-events.is c.requires.somewhere.at in
    record { recorded = f.recorded; have = f.have }
