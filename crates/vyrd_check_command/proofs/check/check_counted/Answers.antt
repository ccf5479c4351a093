use Rattle.std.proofs.Common.{sym, ◌∙◌}
use Rattle.vyrd_check_command.proofs.CheckLaws.{reached_judged, reached_settled, reached_accepted}
use Rattle.vyrd_check_command.proofs.StatusLaws.{verdict_isnt_four, none_failed}
use Rattle.vyrd_check_command.proofs.check.check_counted.Goals as goal

pub returns-in-Ok-answer_with-clause-verdict : goal.returns-in-Ok-answer_with-clause-verdict
returns-in-Ok-answer_with-clause-verdict g c = λ judged. record {
  verdict = c.in-Ok.verdict;
  is_verdict = reached_judged c.args.max_lines
      (record { low = c.requires.low; high = c.requires.high })
      (g.S.Source.known c.args.source.now) (g.S.Source.known c.read_verdict.new.source)
      c.in-Ok.verdict c.in-Ok.ensures.reached;
  status_is = c.in-Ok-answer_with.ensures.status;
  text_is = c.in-Ok-answer_with.ensures.text;
}

pub returns-in-Ok-answer_with-clause-consumed : goal.returns-in-Ok-answer_with-clause-consumed
returns-in-Ok-answer_with-clause-consumed g c = λ judged.
    reached_settled c.args.max_lines (record { low = c.requires.low; high = c.requires.high })
    (g.S.Source.known c.args.source.now) (g.S.Source.known c.read_verdict.new.source)
    c.in-Ok.verdict c.in-Ok.ensures.reached

pub returns-in-Ok-answer_with-clause-accepted_at_end :
    goal.returns-in-Ok-answer_with-clause-accepted_at_end
returns-in-Ok-answer_with-clause-accepted_at_end g c = λ accepted.
    reached_accepted c.args.max_lines
    (g.S.Source.known c.args.source.now) (g.S.Source.known c.read_verdict.new.source)
    c.in-Ok.verdict (sym c.in-Ok-answer_with.ensures.status ∙ accepted) c.in-Ok.ensures.reached

pub returns-in-Ok-answer_with-clause-source : goal.returns-in-Ok-answer_with-clause-source
returns-in-Ok-answer_with-clause-source g c =
    none_failed c.in-Ok-answer_with.answer.status
    (g.S.Source.known c.args.source.now) (g.S.Source.known c.read_verdict.new.source)
    (verdict_isnt_four c.in-Ok-answer_with.answer.status c.in-Ok.verdict
    c.in-Ok-answer_with.ensures.status)
    c.in-Ok.ensures.source
