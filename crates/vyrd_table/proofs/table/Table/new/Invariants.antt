use Rattle.vyrd_table.proofs.table.Table.new.Given as goal

abbrev pub ghosts-new_alone : goal.ghosts-new_alone
ghosts-new_alone g a = record { name = a.blank.name; parts = a.blank.parts }
