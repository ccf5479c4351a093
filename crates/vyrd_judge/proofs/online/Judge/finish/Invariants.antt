use Rattle.vyrd_judge.proofs.online.Judge.finish.Given as goal

abbrev pub ghosts-finish_alone : goal.ghosts-finish_alone
ghosts-finish_alone g a = record { name = a.blank.name; parts = a.blank.parts }
