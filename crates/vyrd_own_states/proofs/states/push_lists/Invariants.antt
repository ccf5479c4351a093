use Rattle.vyrd_own_states.proofs.Prelude.{◌≡◌, ◌++◌, map, list_at, numbers_below, elements_of}
use Rattle.vyrd_own_states.proofs.states.push_lists.Given as goal

abbrev pub invariant-loop-number : goal.invariant-loop-number
invariant-loop-number l = l.items.items ≡ l.initial.items.items
    ++ map (λ i. elements_of l.at i (list_at l.state i)) (numbers_below l.number)
