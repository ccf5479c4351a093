use Rattle.vyrd_own.proofs.steps.find_effects.Given as goal

abbrev pub ghosts-find_alone : goal.ghosts-find_alone
ghosts-find_alone a = record { name = a.blank.name; parts = a.blank.parts }
