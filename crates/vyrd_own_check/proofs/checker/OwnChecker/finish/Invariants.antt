use Rattle.vyrd_own_check.proofs.checker.OwnChecker.finish.Given as goal

abbrev pub ghosts-finish_alone : goal.ghosts-finish_alone
ghosts-finish_alone a = record { name = a.blank.name; parts = a.blank.parts }
