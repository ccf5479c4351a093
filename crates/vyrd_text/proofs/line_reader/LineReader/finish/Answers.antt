use Rattle.vyrd_text.proofs.Prelude.{◌≡◌, [], Some, None, true, false, refl, subst, sym, ◌∙◌, ap}
use Rattle.vyrd_text.proofs.Prelude.{LineState, goes_on, IsNoticed, state_of}
use Rattle.vyrd_text.specs.Answered.{IsAnswer}
use Rattle.vyrd_text.proofs.ViewLaws.{fault_none, fault_some, header_of_ended, rule_none, rule_some}
use Rattle.vyrd_text.proofs.ReadLaws.{fault_at_end, fine_at_end, ended_at_end, unfinished_at_end}
use Rattle.vyrd_text.proofs.line_reader.LineReader.finish.Goals as goal
use Rattle.vyrd_text.proofs.line_reader.LineReader.finish.Goals.{then-is_empty, else-is_empty}

pub returns-then-is_some-clause-answer : goal.returns-then-is_some-clause-answer
returns-then-is_some-clause-answer c = λ noticed.
    let f = fault_some c.self.inside.fault (sym c.if-is_some.ensures) in
    subst (λ o. IsAnswer c.answer.result o)
    (fault_at_end c.args.self.now f.0 (ap (λ (s : LineState). s.fault) (sym c.self.view_is) ∙ f.1))
    c.answer.ensures

pub returns-then-self-clause-answer : goal.returns-then-self-clause-answer
returns-then-self-clause-answer c =
    let h = header_of_ended (state_of c.self.inside) c.self.invariant c.if-self.true in
    subst (λ (s : LineState). IsNoticed s → (goes_on s true []).fault ≡ None) c.self.view_is
    (λ noticed. fine_at_end (state_of c.self.inside) noticed
    (fault_none c.self.inside.fault (sym c.if-is_some.ensures)) h.0 h.1 c.if-self.true)

pub returns-then-self-clause-ended : goal.returns-then-self-clause-ended
returns-then-self-clause-ended c =
    let h = header_of_ended (state_of c.self.inside) c.self.invariant c.if-self.true in
    subst (λ (s : LineState). IsNoticed s → (goes_on s true []).ended ≡ true) c.self.view_is
    (λ noticed. ended_at_end (state_of c.self.inside) noticed
    (fault_none c.self.inside.fault (sym c.if-is_some.ensures)) h.0 h.1 c.if-self.true)

pub returns-clause-answer : goal.returns-clause-answer
returns-clause-answer c =
    subst (λ (s : LineState). IsNoticed s
    → (goes_on s true []).fault
    ≡ Some (record { line = c.self.inside.line; rule = c.if-is_empty.rule })) c.self.view_is
    (λ noticed.
    unfinished_at_end (state_of c.self.inside) noticed
    (fault_none c.self.inside.fault (sym c.if-is_some.ensures)) c.self.invariant.one_line
    c.if-self.false (λ none. (c.self.invariant.first none).0)
    ∙ ap (λ r. Some (record { line = c.self.inside.line; rule = r }))
    (elim c.if-is_empty.branch [
      | then-is_empty w ↦ rule_none c.self.inside.unfinished (w.if-is_empty.ensures.0 refl)
          ∙ sym w.rule-is
      | else-is_empty w ↦ rule_some c.self.inside.unfinished
          (λ e. let x : false ≡ true = w.if-is_empty.ensures.1 e in cc) ∙ sym w.rule-is
    ]))
