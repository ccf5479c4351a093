use Rattle.vyrd_log_check.proofs.checker.log_verdict_of.Given as goal

abbrev pub ghosts-log_verdict_alone : goal.ghosts-log_verdict_alone
ghosts-log_verdict_alone a = record { name = a.blank.name; parts = a.blank.parts }
