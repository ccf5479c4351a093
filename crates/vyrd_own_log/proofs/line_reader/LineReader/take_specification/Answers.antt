use Rattle.vyrd_own_log.proofs.Prelude.{◌≡◌, true, ap, sym, ◌∙◌, subst, SoFar, Found, are_callable}
use Rattle.vyrd_own_log.proofs.Prelude.{LineState}
use Rattle.vyrd_own_text.specs.Meaning.{so_far}
use Rattle.vyrd_own_log.proofs.CallableLaws.{next_callable}
use Rattle.vyrd_own_log.proofs.line_reader.LineReader.take_specification.Goals as goal

pub returns-in-More-clause-callable : goal.returns-in-More-clause-callable
returns-in-More-clause-callable c =
    subst (λ (s : SoFar). are_callable s.specification.methods ≡ true)
    (sym (ap (λ (s : LineState). s.said) c.go_on.ensures ∙ c.in-Ok.ensures.left))
    (next_callable (so_far c.args.self.now.specification) c.args.line.now c.requires.callable)

pub returns-in-Log-clause-callable : goal.returns-in-Log-clause-callable
returns-in-Log-clause-callable c =
    subst (λ (s : SoFar). are_callable s.specification.methods ≡ true)
    (sym (ap (λ (s : LineState). s.said) c.go_on-in-Log.ensures ∙ c.in-Ok.ensures.left))
    (next_callable (so_far c.args.self.now.specification) c.args.line.now c.requires.callable)

pub returns-in-Refused-clause-callable : goal.returns-in-Refused-clause-callable
returns-in-Refused-clause-callable c =
    subst (λ (s : SoFar). are_callable s.specification.methods ≡ true)
    (sym (ap (λ (s : LineState × Found). s.0.said) c.break_rule.ensures ∙ c.in-Ok.ensures.left))
    (next_callable (so_far c.args.self.now.specification) c.args.line.now c.requires.callable)
