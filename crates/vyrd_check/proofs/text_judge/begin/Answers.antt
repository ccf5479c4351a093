use Rattle.vyrd_check.proofs.Prelude.{◌||◌, ap, subst, sym, ◌∙◌, has_any, IsMade}
use Rattle.vyrd_check.proofs.PieceLaws.{made_from, begun_by}
use Rattle.vyrd_check.proofs.text_judge.begin.Goals as goal

pub returns : goal.returns
returns c =
    let made = c.in_ok-judge.ensures in
    begun_by (has_any c.args.entries.now || c.args.reader.now.ended) c.args.reader.now.header
    c.args.reader.now.start c.args.judge.now c.in_ok-judge.field-0 c.in-Some.header
    (sym c.is_some.ensures ∙ c.if-is_some.false)
    (ap (λ b. has_any c.args.entries.now || b) (sym c.ended.ensures.kept)
    ∙ sym c.has_begun.ensures ∙ c.if-not-has_begun.false)
    (sym c.header.ensures.kept ∙ c.in-Some.is)
    (subst (λ ss. IsMade c.in-Some.header ss c.in_ok-judge.field-0) c.start.ensures.kept
    (made_from c.in-Some.header c.start.result.now c.in_ok-judge.field-0 made.none made.followed
    made.charter made.so_far made.shows made.owed))
