use Rattle.vyrd_observers.proofs.watches.Watches.begin.Given as goal

abbrev pub ghosts-begin_alone : goal.ghosts-begin_alone
ghosts-begin_alone a = record { name = a.blank.name; parts = a.blank.parts }
