use Rattle.vyrd_batch.proofs.rounds.BatchJudge.finish.Given as goal

abbrev pub ghosts-finish_alone : goal.ghosts-finish_alone
ghosts-finish_alone g a = record { name = a.blank.name; parts = a.blank.parts }
