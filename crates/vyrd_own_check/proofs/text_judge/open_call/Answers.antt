use Rattle.vyrd_own_check.proofs.Prelude.{rules_by, ap, sym, ◌∙◌, unless_accepted, open_at_end}
use Rattle.vyrd_own_check.proofs.text_judge.open_call.Goals as goal

pub returns-in-Accepted-clause-verdict : goal.returns-in-Accepted-clause-verdict
returns-in-Accepted-clause-verdict g c = λ starting log f none.
    ap unless_accepted (sym c.in-Accepted.is)
    ∙ open_at_end (rules_by c.args.judge.now.kept.charter) starting log
    c.in_ok-finish_counted.field-0 none (c.in_ok-finish_counted.ensures.verdict starting log f)

pub returns-in-Violation-clause-verdict : goal.returns-in-Violation-clause-verdict
returns-in-Violation-clause-verdict g c = λ starting log f none.
    ap unless_accepted (sym c.in-Violation.is)
    ∙ open_at_end (rules_by c.args.judge.now.kept.charter) starting log
    c.in_ok-finish_counted.field-0 none (c.in_ok-finish_counted.ensures.verdict starting log f)

pub returns-in-Malformed-clause-verdict : goal.returns-in-Malformed-clause-verdict
returns-in-Malformed-clause-verdict g c = λ starting log f none.
    ap unless_accepted (sym c.in-Malformed.is)
    ∙ open_at_end (rules_by c.args.judge.now.kept.charter) starting log
    c.in_ok-finish_counted.field-0 none (c.in_ok-finish_counted.ensures.verdict starting log f)
