use Rattle.vyrd_batch.proofs.reader.read_batch.Given as goal

abbrev pub ghosts-read_batch_alone : goal.ghosts-read_batch_alone
ghosts-read_batch_alone a = record { name = a.blank.name; parts = a.blank.parts }
