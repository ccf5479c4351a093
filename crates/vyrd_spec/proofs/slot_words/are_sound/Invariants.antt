use Rattle.vyrd_spec.proofs.Prelude.{◌≡◌, true, list_all, numbers_below, is_sound_slot}
use Rattle.vyrd_spec.proofs.slot_words.are_sound.Given as goal

abbrev pub invariant-loop-slot : goal.invariant-loop-slot
invariant-loop-slot l = list_all (is_sound_slot l.size l.words) (numbers_below l.slot) ≡ true
