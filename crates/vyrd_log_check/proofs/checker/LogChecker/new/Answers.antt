use Rattle.vyrd_log_check.proofs.CostLaws.{nothing_read}
use Rattle.vyrd_log_check.proofs.checker.LogChecker.new.Goals as goal

pub returns-clause-unread : goal.returns-clause-unread
returns-clause-unread c = nothing_read c.args.max_lines
