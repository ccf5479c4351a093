use Rattle.vyrd_log_check.proofs.KeptLaws.{first_keeps, own_keeps}
use Rattle.vyrd_log_check.proofs.laws.little_is_kept.Goals as goal

pub returns-clause-first : goal.returns-clause-first
returns-clause-first c = first_keeps

pub returns-clause-own : goal.returns-clause-own
returns-clause-own c = own_keeps
