use Rattle.vyrd_observers.proofs.watches.Watches.see_all.Given as goal

abbrev pub ghosts-see_all_alone : goal.ghosts-see_all_alone
ghosts-see_all_alone g a = record { name = a.blank.name; parts = a.blank.parts }
