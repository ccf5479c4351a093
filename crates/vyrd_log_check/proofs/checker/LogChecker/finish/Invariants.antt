use Rattle.vyrd_log_check.proofs.checker.LogChecker.finish.Given as goal

abbrev pub ghosts-finish_alone : goal.ghosts-finish_alone
ghosts-finish_alone a = record { name = a.blank.name; parts = a.blank.parts }
