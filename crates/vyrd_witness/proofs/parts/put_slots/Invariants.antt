use Rattle.vyrd_witness.proofs.Prelude.{◌≡◌, ◌++◌, flat_map, given, slot_parts, numbers_below, told}
use Rattle.vyrd_witness.proofs.parts.put_slots.Given as goal

abbrev pub invariant-loop-slot : goal.invariant-loop-slot
invariant-loop-slot l = l.parts.items ≡ l.fn.parts.items
    ++ flat_map (λ i. told i (given l.key (slot_parts l.words i))) (numbers_below l.slot)
