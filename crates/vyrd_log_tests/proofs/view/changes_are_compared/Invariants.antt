use Rattle.vyrd_log_tests.proofs.view.changes_are_compared.Given as goal

abbrev pub ghosts-differences : goal.ghosts-differences
ghosts-differences g a = record { name = a.blank.name; parts = a.blank.parts }
