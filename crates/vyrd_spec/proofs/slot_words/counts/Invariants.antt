use Rattle.vyrd_spec.proofs.Prelude.{◌≡◌, flat_map, numbers_below, collected, slot_parts}
use Rattle.vyrd_spec.proofs.slot_words.counts.Given as goal

abbrev pub invariant-loop-slot : goal.invariant-loop-slot
invariant-loop-slot l = l.counts ≡ collected (flat_map (slot_parts l.words) (numbers_below l.slot))
