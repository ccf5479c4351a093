use Rattle.vyrd_own_states.proofs.Prelude.{◌≡◌, [], drop, filter_map, each_once}
use Rattle.vyrd_own_states.specs.OwnReplies.{hidden_key}
use Rattle.vyrd_own_states.proofs.keys.hidden_keys.Given as goal

abbrev pub invariant-loop-worth : goal.invariant-loop-worth
invariant-loop-worth l =
    each_once l.keys.items
    (filter_map (λ worth. hidden_key worth.reads) (drop l.worth-index l.worths))
    ≡ each_once [] (filter_map (λ worth. hidden_key worth.reads) l.worths)
