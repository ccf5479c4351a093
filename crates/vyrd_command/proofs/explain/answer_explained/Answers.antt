use Rattle.vyrd_command.proofs.ExplainLaws.{explain_answered}
use Rattle.vyrd_command.proofs.explain.answer_explained.Goals as goal

pub returns-in-Ok-finish-clause-answers : goal.returns-in-Ok-finish-clause-answers
returns-in-Ok-finish-clause-answers g c = λ answered.
    let taken = c.in-Ok.ensures.taken in
    explain_answered c.args.about c.args.max_lines (g.S.Source.known c.args.source.now)
    (g.S.Source.known c.take_log.new.source) c.take_log.new.explainer
    c.status_of.result c.in-Ok-finish.said.verdict c.in-Ok-finish.said.text.items
    (record { low = c.requires.low; high = c.requires.high }) taken
    c.status_of.ensures (c.in-Ok-finish.ensures.verdict taken.bytes taken.taken)
    (c.in-Ok-finish.ensures.text taken.bytes taken.taken)
