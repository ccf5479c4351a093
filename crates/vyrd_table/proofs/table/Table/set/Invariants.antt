use Rattle.vyrd_table.proofs.table.Table.set.Given as goal

abbrev pub ghosts-set_alone : goal.ghosts-set_alone
ghosts-set_alone g a = record { name = a.blank.name; parts = a.blank.parts }
