use Rattle.std.proofs.Common.{arith, sym}
use Rattle.vyrd_spec.proofs.ChunkWordLaws.{is_sound_at, pair_shown}
use Rattle.vyrd_spec.proofs.SoundRows.{no_row, sound_more, shown_more}
use Rattle.vyrd_spec.proofs.chunk_words.pairs_of.Goals as goal

pub returns-in-None : goal.returns-in-None
returns-in-None c =
    let words = c.args.words.now in
    no_row (is_sound_at words) (pair_shown words) c.args.size c.loop-chunk.chunk (omega arith)
    (sym c.in-None.ensures)

pub loop-chunk-preserved : goal.loop-chunk-preserved
loop-chunk-preserved c =
    let words = c.args.words.now in
    let chunk = c.loop-chunk.chunk in
    record {
      sound = sound_more (is_sound_at words) (pair_shown words) chunk c.in-Some.pair
          (sym c.in-Some.ensures) c.loop-chunk.invariant.sound;
      shown = shown_more (is_sound_at words) (pair_shown words) c.loop-chunk.pairs.items
          c.push.new.self.items chunk c.in-Some.pair
          (sym c.in-Some.ensures) c.loop-chunk.invariant.shown c.in_ok-push-in-Some.ensures.items;
    }
