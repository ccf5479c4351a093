use Rattle.vyrd_own.proofs.state.StateOf.put_all.Given as goal

abbrev pub ghosts-put_alone : goal.ghosts-put_alone
ghosts-put_alone a = record { name = a.blank.name; parts = a.blank.parts }
