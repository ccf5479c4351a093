use Rattle.vyrd_observers.proofs.watches.Watches.close.Given as goal

abbrev pub ghosts-close_alone : goal.ghosts-close_alone
ghosts-close_alone a = record { name = a.blank.name; parts = a.blank.parts }
