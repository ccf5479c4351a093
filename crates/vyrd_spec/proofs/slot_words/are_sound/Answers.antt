use Rattle.vyrd_spec.proofs.Prelude.{arith, sym, ◌∙◌, ◌*◌, is_sound_slot}
use Rattle.vyrd_spec.proofs.RowLaws.{one_fails, passes_more}
use Rattle.vyrd_spec.proofs.slot_words.are_sound.Goals as goal

pub returns-then-not-is_sound_slot : goal.returns-then-not-is_sound_slot
returns-then-not-is_sound_slot c =
    sym (one_fails (is_sound_slot c.args.size c.args.words.now) (4 * c.args.size) c.loop-slot.slot
    (omega arith)
    (sym c.is_sound_slot.ensures ∙ c.if-not-is_sound_slot.true))

pub loop-slot-preserved : goal.loop-slot-preserved
loop-slot-preserved = grind (arith, passes_more)
