use Rattle.vyrd_own_states.proofs.Prelude.{◌≡◌, ◌++◌, map, take, amount_of, Before}
use Rattle.vyrd_own_states.proofs.states.push_shown.Given as goal

abbrev pub invariant-loop-key : goal.invariant-loop-key
invariant-loop-key l = l.items.items ≡ l.initial.items.items
    ++ map (λ key. Before l.at key (amount_of l.state.shown key)) (take l.key-index l.keys)
