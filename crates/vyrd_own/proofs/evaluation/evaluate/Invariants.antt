use Rattle.vyrd_own.proofs.evaluation.evaluate.Given as goal

abbrev pub ghosts-evaluate_alone : goal.ghosts-evaluate_alone
ghosts-evaluate_alone a = record { name = a.blank.name; parts = a.blank.parts }
