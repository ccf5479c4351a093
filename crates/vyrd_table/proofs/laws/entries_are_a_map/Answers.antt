use Rattle.vyrd_table.proofs.EntryLaws.{value_of-with_value, same_values}
use Rattle.vyrd_table.proofs.laws.entries_are_a_map.Goals as goal

pub returns-clause-set : goal.returns-clause-set
returns-clause-set g c entries key q value =
    value_of-with_value g.V.Value.is_nothing g.V.Value.nothing g.met.V.Value.only_nothing entries
    key value q

pub returns-clause-same : goal.returns-clause-same
returns-clause-same g c one other is_one is_other same =
    same_values g.V.Value.is_nothing g.V.Value.nothing g.met.V.Value.nothing_passes one other
    is_one is_other same
