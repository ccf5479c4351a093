use Rattle.vyrd_spec.proofs.Prelude.{arith, collected-push, slots_at_most}
use Rattle.vyrd_spec.proofs.slot_words.counts.Goals as goal

pub add_slot-requires : goal.add_slot-requires
add_slot-requires = grind (arith, slots_at_most)

pub loop-slot-preserved : goal.loop-slot-preserved
loop-slot-preserved = grind (arith, collected-push)
