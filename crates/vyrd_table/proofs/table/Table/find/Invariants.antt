use Rattle.vyrd_table.proofs.table.Table.find.Given as goal

abbrev pub ghosts-find_alone : goal.ghosts-find_alone
ghosts-find_alone g a = record { name = a.blank.name; parts = a.blank.parts }
