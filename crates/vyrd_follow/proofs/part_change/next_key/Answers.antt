use Rattle.std.proofs.Common.{get_or}
use Rattle.vyrd_follow.proofs.NextKeyLaws.{place_gives_none}
use Rattle.vyrd_follow.proofs.part_change.next_key.Goals as goal

pub loop-place-preserved : goal.loop-place-preserved
loop-place-preserved c =
    let known = c.loop-place.invariant in
    let nearer = c.nearer-next.ensures in record {
      from = nearer.from;
      before = λ q e. known.before q (nearer.before q e);
      none = λ q low e. place_gives_none (λ j. get_or c.args.pairs j (0, 0)) c.loop-place.place q
          (known.none q low (nearer.before q e)) (nearer.apart q low e);
    }
