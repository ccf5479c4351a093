use Rattle.vyrd_words.proofs.views.Views.specify_start.Given as goal

abbrev pub ghosts-tell_amounts : goal.ghosts-tell_amounts
ghosts-tell_amounts g a = record { name = a.blank.name; parts = a.blank.parts }
