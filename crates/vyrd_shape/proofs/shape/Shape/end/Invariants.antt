use Rattle.vyrd_shape.proofs.shape.Shape.end.Given as goal

abbrev pub ghosts-end_alone : goal.ghosts-end_alone
ghosts-end_alone a = record { name = a.blank.name; parts = a.blank.parts }
