use Rattle.vyrd_judge.proofs.online.Judge.follow_history.Given as goal

abbrev pub ghosts-follow_history_alone : goal.ghosts-follow_history_alone
ghosts-follow_history_alone g a = record { name = a.blank.name; parts = a.blank.parts }
