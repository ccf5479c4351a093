use Rattle.std.proofs.Common.{sym, ◌∙◌, refl}
use Rattle.vyrd_words.proofs.CountLaws.{apart_in-parts}
use Rattle.vyrd_words.proofs.counts.place_apart.Goals as goal

pub loop-later-init : goal.loop-later-init
loop-later-init g c =
    record {
      left = sym c.requires.all ∙ sym (apart_in-parts c.args.index c.args.bytes.now.items);
      steps = refl;
    }
