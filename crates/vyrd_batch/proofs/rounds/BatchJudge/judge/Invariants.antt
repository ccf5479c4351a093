use Rattle.vyrd_batch.proofs.rounds.BatchJudge.judge.Given as goal

abbrev pub ghosts-judge_alone : goal.ghosts-judge_alone
ghosts-judge_alone g a = record { name = a.blank.name; parts = a.blank.parts }
