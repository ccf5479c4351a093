use Rattle.vyrd_check_command.proofs.check.check.Given as goal

abbrev pub ghosts-check_alone : goal.ghosts-check_alone
ghosts-check_alone g a = record { name = a.blank.name; parts = a.blank.parts }
