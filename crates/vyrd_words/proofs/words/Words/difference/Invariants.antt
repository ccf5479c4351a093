use Rattle.vyrd_words.proofs.words.Words.difference.Given as goal

abbrev pub ghosts-difference_alone : goal.ghosts-difference_alone
ghosts-difference_alone g a = record { name = a.blank.name; parts = a.blank.parts }
