use Rattle.vyrd_batch.proofs.judging.judge_batch.Given as goal

abbrev pub ghosts-judge_batch_alone : goal.ghosts-judge_batch_alone
ghosts-judge_batch_alone g a = record { name = a.blank.name; parts = a.blank.parts }
