use Rattle.vyrd_shape.proofs.Prelude.{◌≡◌, ◌∙◌, ap, sym, true, false, not, is_none, is_raced}
use Rattle.vyrd_shape.proofs.ShapeLaws.{raced_rule, clear_rule, first_rule}
use Rattle.vyrd_shape.proofs.shape.Shape.broken_by_write.Goals as goal
use Rattle.vyrd_shape.proofs.shape.Shape.broken_by_write.Goals.{else-is_none-via-then-is_none+else-is_raced}
use Rattle.vyrd_shape.proofs.shape.Shape.broken_by_write.Goals.{else-is_none-via-else-is_none}

pub returns-then-is_raced-clause-rule : goal.returns-then-is_raced-clause-rule
returns-then-is_raced-clause-rule c = λ earlier followed is.
    let none : is_none c.write_rule-rule.result ≡ true = ap not c.if-is_none.ensures in
    let raced : is_raced c.args.self.now.header c.args.caller c.args.word earlier ≡ true
    = sym (c.is_raced.ensures earlier followed is) ∙ c.if-is_raced.true in
    rw (← c.self.view_is) (raced_rule c.write_rule-rule.result _ _ none
    (rw (← c.self.view_is) at raced) (c.write_rule-rule.ensures.rule c.args.caller earlier is))

pub returns-else-is_none-clause-rule : goal.returns-else-is_none-clause-rule
returns-else-is_none-clause-rule c = λ earlier followed is. elim c.else-is_none.branch [
  | else-is_none-via-then-is_none+else-is_raced w ↦
      let clear : is_raced c.args.self.now.header c.args.caller c.args.word earlier ≡ false
      = sym (w.is_raced.ensures earlier followed is) ∙ w.if-is_raced.false in
      rw (← c.self.view_is) (clear_rule c.write_rule-rule.result _ _
      (rw (← c.self.view_is) at clear) (c.write_rule-rule.ensures.rule c.args.caller earlier is))
  | else-is_none-via-else-is_none w ↦
      rw (← c.self.view_is) (first_rule c.write_rule-rule.result _ _ (ap not w.if-is_none.ensures)
      (c.write_rule-rule.ensures.rule c.args.caller earlier is))
]
