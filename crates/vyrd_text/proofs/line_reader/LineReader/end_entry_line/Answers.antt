use Rattle.vyrd_text.proofs.Prelude.{◌+◌, sym, ◌∙◌, ap, subst, true, false, ◌≡◌, [], ◌∷◌, refl}
use Rattle.vyrd_text.proofs.Prelude.{entry_in, isnt_below, LineState, state_of, IsLineTaken}
use Rattle.vyrd_text.proofs.Prelude.{with_line}
use Rattle.vyrd_text.proofs.LineSteps.{end_read, entry_read, bad_entry, is_word_true, is_word_false}
use Rattle.vyrd_text.proofs.line_reader.LineReader.end_entry_line.Goals as goal

pub returns-then-is_word : goal.returns-then-is_word
returns-then-is_word c =
    let r : LineState = c.args.self.now in
    let is : state_of c.self.inside ≡ r = c.self.view_is in
    rw (c.next_line.ensures)
    (subst (λ (s : LineState). IsLineTaken (with_line r c.args.line.now) [] []
    (record s { line = s.line + 1; starting = false; ended = true; unfinished = [] })) (sym is)
    (end_read r c.args.line.now c.requires.line c.requires.fine c.requires.low c.args.header
    c.requires.later
    (isnt_below r.max_lines r.line c.requires.within) c.requires.going c.requires.no_start
    (is_word_true c.args.line.now (c.if-is_word.ensures.0 refl))))

pub returns-in-Some : goal.returns-in-Some
returns-in-Some c =
    let r : LineState = c.args.self.now in
    let is : state_of c.self-in-Some.inside ≡ r = c.self-in-Some.view_is in
    rw (c.next_line-in-Some.ensures)
    (subst (λ (s : LineState). IsLineTaken (with_line r c.args.line.now) [] (c.in-Some.entry ∷ [])
    (record s { line = s.line + 1; starting = false; unfinished = [] })) (sym is)
    (entry_read r c.args.line.now c.requires.line c.requires.fine c.requires.low c.args.header
    c.requires.later
    (isnt_below r.max_lines r.line c.requires.within) c.requires.going c.requires.no_start
    (is_word_false c.args.line.now (λ e. let x : false ≡ true = c.if-is_word.ensures.1 e in cc))
    c.in-Some.entry (ap (λ s. entry_in s c.args.line.now) (sym c.subject.ensures)
    ∙ sym c.read_line.ensures ∙ c.in-Some.is)))

pub returns-in-None : goal.returns-in-None
returns-in-None c =
    let r : LineState = c.args.self.now in
    rw c.break_rule.ensures
    (bad_entry r c.args.line.now c.requires.line c.requires.fine c.requires.low c.args.header
    c.requires.later
    (isnt_below r.max_lines r.line c.requires.within) c.requires.going c.requires.no_start
    (is_word_false c.args.line.now (λ e. let x : false ≡ true = c.if-is_word.ensures.1 e in cc))
    (ap (λ s. entry_in s c.args.line.now) (sym c.subject.ensures) ∙ sym c.read_line.ensures
    ∙ c.in-None.is))
