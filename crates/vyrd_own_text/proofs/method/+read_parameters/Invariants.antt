use Rattle.vyrd_own_text.proofs.method.+read_parameters.Given as goal

abbrev pub decreases-read_parameters : goal.decreases-read_parameters
decreases-read_parameters l = l.left
