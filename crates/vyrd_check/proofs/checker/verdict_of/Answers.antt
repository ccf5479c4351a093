use Rattle.vyrd_check.proofs.Prelude.{[], ap, ◌∙◌, text_verdict, where_same}
use Rattle.vyrd_check.proofs.checker.verdict_of.Goals as goal

pub returns : goal.returns
returns c =
    let bytes = c.args.bytes.now in
    let limit = c.in_ok-feed.ensures.limit ∙ c.new-checker.ensures.limit in
    where_same (text_verdict c.feed.new.self.kept.reader.max_lines bytes)
    (text_verdict c.args.max_lines bytes)
    (ap (λ m. text_verdict m bytes) limit) c.finish.result
    (c.finish.ensures.verdict bytes (c.in_ok-feed.ensures.checked [] c.new-checker.ensures.checked))
