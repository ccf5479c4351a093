use Rattle.vyrd_table.proofs.table.Table.value.Given as goal

abbrev pub ghosts-value_alone : goal.ghosts-value_alone
ghosts-value_alone g a = record { name = a.blank.name; parts = a.blank.parts }
