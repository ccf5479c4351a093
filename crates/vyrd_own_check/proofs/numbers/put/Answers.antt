use Rattle.vyrd_own_check.proofs.Prelude.{ap, ◌∙◌, number_from}
use Rattle.vyrd_own_check.proofs.NumberLaws.{number_before, number_begun}
use Rattle.vyrd_own_check.proofs.numbers.put.Goals as goal

pub returns-clause-here : goal.returns-clause-here
returns-clause-here c =
    ap (λ rs. number_from 0 rs c.args.place) c.in_ok-push.ensures.items
    ∙ number_begun c.args.runs.now.items c.args.place c.args.line

pub returns-clause-before : goal.returns-clause-before
returns-clause-before c = λ p low.
    ap (λ rs. number_from 0 rs p) c.in_ok-push.ensures.items
    ∙ number_before p c.args.runs.now.items (record { place = c.args.place; line = c.args.line })
    low
