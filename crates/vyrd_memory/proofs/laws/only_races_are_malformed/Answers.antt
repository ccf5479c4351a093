use Rattle.vyrd_memory.proofs.RaceLaws.{only_races, only_races_break, none_is_open}
use Rattle.vyrd_memory.proofs.laws.only_races_are_malformed.Goals as goal

pub returns-clause-breaks : goal.returns-clause-breaks
returns-clause-breaks c = λ h scripts history sound legal played.
    (only_races_break h scripts history sound legal played).raced

pub returns-clause-closed : goal.returns-clause-closed
returns-clause-closed c = λ h scripts history sound legal played. none_is_open h scripts history
    sound legal played

pub returns-clause-named : goal.returns-clause-named
returns-clause-named c = λ h scripts history sound legal played line rule e. only_races h scripts
    history sound legal played line rule e
