use Rattle.vyrd_shadow.proofs.shadow.Shadow.write.Given as goal

abbrev pub ghosts-write_alone : goal.ghosts-write_alone
ghosts-write_alone a = record { name = a.blank.name; parts = a.blank.parts }
