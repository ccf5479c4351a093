use Rattle.vyrd_log_tests.proofs.view.one_slot_changed.Given as goal

abbrev pub ghosts-one_slot : goal.ghosts-one_slot
ghosts-one_slot g a = record { name = a.blank.name; parts = a.blank.parts }
