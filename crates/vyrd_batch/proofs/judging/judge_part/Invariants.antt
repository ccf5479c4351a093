use Rattle.vyrd_batch.proofs.judging.judge_part.Given as goal

abbrev pub ghosts-judge_part_alone : goal.ghosts-judge_part_alone
ghosts-judge_part_alone a = record { name = a.blank.name; parts = a.blank.parts }
