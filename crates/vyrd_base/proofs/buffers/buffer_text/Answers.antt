use Rattle.vyrd_base.proofs.Prelude.{◌<◌, arith, buffer_at}
use Rattle.vyrd_base.proofs.TextLaws.{text_below}
use Rattle.vyrd_base.proofs.BufferLaws.{digit_below, power_below, bad_text}
use Rattle.vyrd_base.proofs.buffers.buffer_text.Goals as goal

pub returns-then-character-ge-CHARACTER_END : goal.returns-then-character-ge-CHARACTER_END
returns-then-character-ge-CHARACTER_END c = search (bad_text, arith)

pub overflow_mul-text : goal.overflow_mul-text
overflow_mul-text c =
    let buffer = buffer_at c.args.words.now c.args.number in
    let few : c.loop-i.i < 7 =
    omega (arith, c.loop-i-test.true, c.if-count-gt-MOST_CHARACTERS.false) in
    omega (
      arith,
      digit_below (buffer.character c.loop-i.i) c.loop-i.power c.loop-i.i
          c.if-character-ge-CHARACTER_END.false few c.loop-i.invariant.power,
    )

pub overflow_add-text-in-loop-i : goal.overflow_add-text-in-loop-i
overflow_add-text-in-loop-i c =
    let buffer = buffer_at c.args.words.now c.args.number in
    let few : c.loop-i.i < 7 =
    omega (arith, c.loop-i-test.true, c.if-count-gt-MOST_CHARACTERS.false) in
    omega (
      arith,
      digit_below (buffer.character c.loop-i.i) c.loop-i.power c.loop-i.i
          c.if-character-ge-CHARACTER_END.false few c.loop-i.invariant.power,
      power_below c.loop-i.power c.loop-i.i few c.loop-i.invariant.power,
      text_below buffer.character c.loop-i.i c.loop-i.invariant.characters,
      c.loop-i.invariant.text,
      c.loop-i.invariant.power,
    )

pub overflow_mul-power : goal.overflow_mul-power
overflow_mul-power c =
    let few : c.loop-i.i < 7 =
    omega (arith, c.loop-i-test.true, c.if-count-gt-MOST_CHARACTERS.false) in
    omega (arith, power_below c.loop-i.power c.loop-i.i few c.loop-i.invariant.power)
