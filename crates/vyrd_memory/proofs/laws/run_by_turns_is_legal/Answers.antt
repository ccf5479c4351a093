use Rattle.vyrd_memory.proofs.LegalRuns.{run_is_legal, run_plays}
use Rattle.vyrd_memory.proofs.laws.run_by_turns_is_legal.Goals as goal

pub returns-clause-legal : goal.returns-clause-legal
returns-clause-legal c = λ h scripts turns history sound to. run_is_legal h scripts turns history
    sound to

pub returns-clause-played : goal.returns-clause-played
returns-clause-played c = λ h scripts turns history sound to. run_plays h scripts turns history
    sound to
