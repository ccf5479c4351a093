use Rattle.vyrd_own_states.proofs.Prelude.{◌≡◌, ◌++◌, map, slice_index, numbers_below, Register}
use Rattle.vyrd_own_states.proofs.states.push_registers.Given as goal

abbrev pub invariant-loop-number : goal.invariant-loop-number
invariant-loop-number l = l.items.items ≡ l.initial.items.items
    ++ map (λ i. Register l.at i (slice_index l.state.registers i)) (numbers_below l.number)
