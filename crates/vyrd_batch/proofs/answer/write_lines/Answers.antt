use Rattle.vyrd_batch.proofs.Prelude.{◌++◌, take, ap, ◌∙◌, sym, append_assoc, get_or, Verdict}
use Rattle.vyrd_batch.proofs.Prelude.{lines_from, log_line}
use Rattle.vyrd_base.specs.declared.verdict.Verdict.TheVariants.{Accepted}
use Rattle.vyrd_text.proofs.WrittenLaws.{front_of_front}
use Rattle.vyrd_batch.proofs.AnswerFacts.{lines_more, on_error}
use Rattle.vyrd_batch.proofs.answer.write_lines.Goals as goal

-- what stands for the verdict past the end
abbrev past : Verdict
past = Accepted 0 0 0

pub loop-log-preserved : goal.loop-log-preserved
loop-log-preserved c =
    let i = c.loop-log.log in
    let verdicts = c.args.verdicts.now in
    let old = c.args.out.now.items in
    c.in_ok-write_log_line.ensures.ok ∙ ap (λ text. text ++ log_line i (get_or verdicts i past))
    c.loop-log.invariant
    ∙ append_assoc old (lines_from 0 (take i verdicts)) (log_line i (get_or verdicts i past))
    ∙ ap (λ text. old ++ text) (sym (lines_more verdicts i past c.loop-log-test.true))

pub returns-in_err-write_log_line-clause-err : goal.returns-in_err-write_log_line-clause-err
returns-in_err-write_log_line-clause-err c = on_error c.from_residual.result
    (front_of_front c.args.out.now.items (lines_from 0 (take c.loop-log.log c.args.verdicts.now))
    c.loop-log.out.items
    c.write_log_line.new.out.items c.loop-log.invariant c.in_err-write_log_line.ensures.err)
