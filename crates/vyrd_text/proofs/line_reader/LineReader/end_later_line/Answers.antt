use Rattle.vyrd_text.proofs.Prelude.{is_below, isnt_below, state_of}
use Rattle.vyrd_text.proofs.LineSteps.{too_many, after_end_line}
use Rattle.vyrd_text.proofs.line_reader.LineReader.end_later_line.Goals as goal

pub returns-then-self : goal.returns-then-self
returns-then-self c =
    let fine = rw (← c.self.view_is) at c.requires.fine in
    let has = rw (← c.self.view_is) at c.requires.later in
    rw (c.break_rule.ensures, ← c.self.view_is)
    (too_many (state_of c.self.inside) c.args.line.now c.requires.line fine c.self.invariant.low
    c.args.header has
    (is_below c.self.inside.max_lines c.self.inside.line c.if-self.true))

pub returns-then-self-2 : goal.returns-then-self-2
returns-then-self-2 c =
    let fine = rw (← c.self.view_is) at c.requires.fine in
    let has = rw (← c.self.view_is) at c.requires.later in
    rw (c.break_rule-then-self-2.ensures, ← c.self.view_is)
    (after_end_line (state_of c.self.inside) c.args.line.now c.requires.line fine
    c.self.invariant.low c.args.header has
    (isnt_below c.self.inside.max_lines c.self.inside.line c.if-self.false) c.if-self-2.true)
