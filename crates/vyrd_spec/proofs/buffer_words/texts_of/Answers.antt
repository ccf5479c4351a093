use Rattle.std.proofs.Common.{arith, sym}
use Rattle.vyrd_spec.proofs.BufferWordLaws.{is_buffer_at, text_shown}
use Rattle.vyrd_spec.proofs.SoundRows.{no_row, sound_more, shown_more}
use Rattle.vyrd_spec.proofs.buffer_words.texts_of.Goals as goal

pub returns-in-None : goal.returns-in-None
returns-in-None c =
    let words = c.args.words.now in
    no_row (is_buffer_at words) (text_shown words) c.args.size c.loop-buffer.buffer (omega arith)
    (sym c.in-None.ensures)

pub loop-buffer-preserved : goal.loop-buffer-preserved
loop-buffer-preserved c =
    let words = c.args.words.now in
    let buffer = c.loop-buffer.buffer in
    record {
      sound = sound_more (is_buffer_at words) (text_shown words) buffer c.in-Some.text
          (sym c.in-Some.ensures) c.loop-buffer.invariant.sound;
      shown = shown_more (is_buffer_at words) (text_shown words) c.loop-buffer.texts.items
          c.push.new.self.items buffer c.in-Some.text
          (sym c.in-Some.ensures) c.loop-buffer.invariant.shown c.in_ok-push-in-Some.ensures.items;
    }
