use Rattle.vyrd_own.proofs.steps.answer.Given as goal

abbrev pub ghosts-answer_alone : goal.ghosts-answer_alone
ghosts-answer_alone a = record { name = a.blank.name; parts = a.blank.parts }
