use Rattle.vyrd_own_check.proofs.Prelude.{[], ap, ◌∙◌, own_text_verdict, limit_of, checker_in}
use Rattle.vyrd_own_check.proofs.Prelude.{where_same}
use Rattle.vyrd_own_check.proofs.checker.own_verdict_of.Goals as goal

pub returns : goal.returns
returns c =
    let bytes = c.args.bytes.now in
    let limit = c.in_ok-feed.ensures.limit ∙ c.new-checker.ensures.limit in
    where_same (own_text_verdict (limit_of (checker_in c.feed.new.self).kept) bytes)
    (own_text_verdict c.args.max_lines bytes)
    (ap (λ m. own_text_verdict m bytes) limit) c.finish.result
    (c.finish.ensures.verdict bytes (c.in_ok-feed.ensures.checked [] c.new-checker.ensures.checked))
