use Rattle.vyrd_shadow.proofs.shadow.Shadow.clear_changed.Given as goal

abbrev pub ghosts-clear_changed_alone : goal.ghosts-clear_changed_alone
ghosts-clear_changed_alone a = record { name = a.blank.name; parts = a.blank.parts }
