use Rattle.std.proofs.Common.{length, take, ap, arith}
use Rattle.vyrd_base.proofs.NoStart.{words_at_start-none}
use Rattle.vyrd_words.proofs.StartWords.{length-words_at_start}
use Rattle.vyrd_words.proofs.StartedLaws.{word_fits, started_more}
use Rattle.vyrd_words.proofs.starting.words_at_start.Goals as goal

pub loop-s-init : goal.loop-s-init
loop-s-init c = search (words_at_start-none, arith)

pub index_mut-requires : goal.index_mut-requires
index_mut-requires c =
    let fits = word_fits c.args.header c.args.start.now c.loop-s.s-index
    (record { word = 0; value = 0 }) c.requires c.loop-s-test.true in
    omega (
      arith,
      fits,
      c.loop-s.words.ok.0,
      ap length c.loop-s.invariant,
      length-words_at_start c.args.header (take c.loop-s.s-index c.args.start.now),
    )

pub loop-s-preserved : goal.loop-s-preserved
loop-s-preserved = grind (arith, started_more)
