use Rattle.vyrd_command.proofs.batch.batch.Given as goal

abbrev pub ghosts-batch_alone : goal.ghosts-batch_alone
ghosts-batch_alone g a = record { name = a.blank.name; parts = a.blank.parts }
