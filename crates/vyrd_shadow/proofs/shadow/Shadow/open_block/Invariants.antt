use Rattle.vyrd_shadow.proofs.shadow.Shadow.open_block.Given as goal

abbrev pub ghosts-open_block_alone : goal.ghosts-open_block_alone
ghosts-open_block_alone a = record { name = a.blank.name; parts = a.blank.parts }
