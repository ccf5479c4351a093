use Rattle.vyrd_text.proofs.Prelude.{sym, ◌∙◌, isnt_below, state_of}
use Rattle.vyrd_text.proofs.LineSteps.{bad_start, start_read}
use Rattle.vyrd_text.proofs.line_reader.LineReader.end_start_line.Goals as goal

pub returns-in-Some : goal.returns-in-Some
returns-in-Some c =
    let fine = rw (← c.self.view_is) at c.requires.fine in
    let has = rw (← c.self.view_is) at c.requires.later in
    let within = rw (← c.self.view_is) at c.requires.within in
    let going = rw (← c.self.view_is) at c.requires.going in
    let starting = rw (← c.self.view_is) at c.requires.starting in
    rw (c.break_rule.ensures, ← c.self.view_is)
    (bad_start (state_of c.self.inside) c.args.line.now c.requires.line fine c.self.invariant.low
    c.args.header has
    (isnt_below c.self.inside.max_lines c.self.inside.line within) going starting c.args.word
    c.requires.word c.in-Some.rule
    (sym c.rule_of_start.ensures ∙ c.in-Some.is))

pub returns-in-None : goal.returns-in-None
returns-in-None c =
    let fine = rw (← c.self.view_is) at c.requires.fine in
    let has = rw (← c.self.view_is) at c.requires.later in
    let within = rw (← c.self.view_is) at c.requires.within in
    let going = rw (← c.self.view_is) at c.requires.going in
    let starting = rw (← c.self.view_is) at c.requires.starting in
    rw (c.next_line.ensures, ← c.self.view_is)
    (start_read (state_of c.self.inside) c.args.line.now c.requires.line fine c.self.invariant.low
    c.args.header has
    (isnt_below c.self.inside.max_lines c.self.inside.line within) going starting c.args.word
    c.requires.word
    (sym c.rule_of_start.ensures ∙ c.in-None.is))
