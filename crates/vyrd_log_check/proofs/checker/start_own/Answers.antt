use Rattle.vyrd_log_check.proofs.Prelude.{[], ap, ◌∙◌, ◌++◌, own_beginning, own_text_verdict_so_far}
use Rattle.vyrd_log_check.proofs.Prelude.{checker_in}
use Rattle.vyrd_log_check.proofs.CostLaws.{started_steps}
use Rattle.vyrd_log_check.proofs.checker.start_own.Goals as goal

pub returns-clause-checked : goal.returns-clause-checked
returns-clause-checked g c = c.in_ok-verdict.ensures.checked own_beginning
    (c.in_ok-feed_counted.ensures.checked [] c.new-own.ensures.checked)

pub returns-clause-answer : goal.returns-clause-answer
returns-clause-answer g c =
    c.in_ok-verdict.ensures.answer own_beginning
    (c.in_ok-feed_counted.ensures.checked [] c.new-own.ensures.checked)
    ∙ ap (λ m. own_text_verdict_so_far m (own_beginning ++ c.args.rest.now))
    (c.in_ok-feed_counted.ensures.limit ∙ c.new-own.ensures.limit)

pub returns-clause-steps : goal.returns-clause-steps
returns-clause-steps g c =
    let fresh = c.new-own.ensures.checked in
    let fed = c.in_ok-feed_counted.ensures.checked [] fresh in
    started_steps c.args.max_lines (checker_in c.feed_counted-2.new.self)
    (checker_in c.feed_counted.new.self) (checker_in c.new-own.result) c.args.rest.now
    c.args.steps.now c.feed_counted.new.steps c.feed_counted-2.new.steps
    c.new-own.ensures.limit (c.in_ok-feed_counted.ensures.limit ∙ c.new-own.ensures.limit)
    c.new-own.ensures.owed c.new-own.ensures.unread
    (c.in_ok-feed_counted.ensures.steps [] fresh)
    (c.in_ok-verdict.ensures.steps own_beginning fed)
