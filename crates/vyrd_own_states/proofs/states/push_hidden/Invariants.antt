use Rattle.vyrd_own_states.proofs.Prelude.{◌≡◌, ◌++◌, map, take, amount_of, Hidden}
use Rattle.vyrd_own_states.proofs.states.push_hidden.Given as goal

abbrev pub invariant-loop-key : goal.invariant-loop-key
invariant-loop-key l = l.items.items ≡ l.initial.items.items
    ++ map (λ key. Hidden l.at key (amount_of l.state.hidden key)) (take l.key-index l.keys)
