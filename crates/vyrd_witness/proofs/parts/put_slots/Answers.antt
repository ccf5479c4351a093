use Rattle.vyrd_witness.proofs.Prelude.{◌≡◌, ◌*◌, ap, arith, given, slot_parts, told}
use Rattle.vyrd_witness.proofs.GivenLaws.{given_numbered, one_more}
use Rattle.vyrd_witness.proofs.parts.put_slots.Goals as goal

pub loop-slot-preserved : goal.loop-slot-preserved
loop-slot-preserved c =
    let slot = c.loop-slot.slot in
    one_more (λ i. told i (given c.args.key (slot_parts c.args.words.now i))) slot
    c.args.parts.now.items c.loop-slot.parts.items c.put_given.new.parts.items
    (told slot c.given_by_slot.result) c.loop-slot.invariant c.in_ok-put_given.ensures
    (ap (told slot) c.given_by_slot.ensures)

pub returns : goal.returns
returns c =
    let words = c.args.words.now in
    let key = c.args.key in
    let old = c.args.parts.now.items in
    let all : c.loop-slot.slot ≡ 4 * c.args.size =
    omega (arith, c.loop-slot-test.false, c.loop-slot.auto.slot-end, c.requires.count) in
    cc (c.loop-slot.invariant, given_numbered key (slot_parts words) (4 * c.args.size))
