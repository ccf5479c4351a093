use Rattle.vyrd_judge.proofs.online.Judge.follow.Given as goal

abbrev pub ghosts-follow_alone : goal.ghosts-follow_alone
ghosts-follow_alone g a = record { name = a.blank.name; parts = a.blank.parts }
