use Rattle.vyrd_shadow.proofs.shadow.Shadow.close_block.Given as goal

abbrev pub ghosts-close_block_alone : goal.ghosts-close_block_alone
ghosts-close_block_alone a = record { name = a.blank.name; parts = a.blank.parts }
