use Rattle.vyrd_log_check.proofs.Prelude.{◌≡◌, [], ap, ◌∙◌, IfOk-weaker, log_verdict}
use Rattle.vyrd_log_check.proofs.CostLaws.{always, whole_paid}
use Rattle.vyrd_log_check.proofs.checker.log_verdict_of_counted.Goals as goal

pub returns-clause-verdict : goal.returns-clause-verdict
returns-clause-verdict g c =
    let bytes = c.args.bytes.now in
    let limit = c.in_ok-feed_counted.ensures.limit ∙ c.new-checker.ensures.limit in
    IfOk-weaker c.finish_counted.result
    (λ v. v ≡ log_verdict c.feed_counted.new.self.max_lines bytes)
    (λ v. v ≡ log_verdict c.args.max_lines bytes)
    (λ v e. e ∙ ap (λ m. log_verdict m bytes) limit)
    (c.finish_counted.ensures.verdict bytes
    (c.in_ok-feed_counted.ensures.checked [] c.new-checker.ensures.checked))

pub returns-clause-steps : goal.returns-clause-steps
returns-clause-steps g c =
    let bytes = c.args.bytes.now in
    let checked = c.new-checker.ensures.checked in
    always c.finish_counted.result
    (whole_paid c.args.max_lines c.new-checker.result c.feed_counted.new.self bytes c.args.steps.now
    c.feed_counted.new.steps c.finish_counted.new.steps c.new-checker.ensures.limit
    (c.in_ok-feed_counted.ensures.limit ∙ c.new-checker.ensures.limit)
    c.new-checker.ensures.owed c.new-checker.ensures.unread
    (c.in_ok-feed_counted.ensures.steps [] checked)
    (c.finish_counted.ensures.steps bytes (c.in_ok-feed_counted.ensures.checked [] checked)))
