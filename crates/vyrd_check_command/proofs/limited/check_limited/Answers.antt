use Rattle.std.proofs.Common.{arith}
use Rattle.vyrd_check_command.proofs.StatusLaws.{reads_told, line_status}
use Rattle.vyrd_check_command.proofs.limited.check_limited.Goals as goal

pub returns-clause-statuses : goal.returns-clause-statuses
returns-clause-statuses g c = line_status c.give.result.status c.check-answer.result.status
    c.give.ensures.statuses c.check-answer.ensures.statuses

pub returns-clause-source : goal.returns-clause-source
returns-clause-source g c =
    reads_told c.give.result.status c.check-answer.result.status
    (g.S.Source.known c.args.source.now) (g.S.Source.known c.check-answer.new.source)
    c.give.ensures.statuses
    (λ four. c.give.ensures.silent (c.check-answer.ensures.silent (omega (arith, four))))
    c.check-answer.ensures.source
