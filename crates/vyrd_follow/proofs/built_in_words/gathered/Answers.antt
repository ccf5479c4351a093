use Rattle.vyrd_follow.proofs.Prelude.{ap, ◌∙◌, get_or, with_amount}
use Rattle.vyrd_follow.proofs.GatheredLaws.{with_next}
use Rattle.vyrd_follow.proofs.built_in_words.gathered.Goals as goal

pub loop-key-preserved : goal.loop-key-preserved
loop-key-preserved c =
    let l = c.loop-key in
    let all = c.pairs-key-items.result.now in
    let i = c.loop-key.key-index in
    let x = get_or c.pairs-key-items.result.now c.loop-key.key-index (0, 0) in
    record {
      shown = c.in_ok-set.ensures.ok ∙ ap (λ s. with_amount s x.0 x.1) l.invariant.shown
          ∙ with_next all i (0, 0) l.invariant.formed c.loop-key-test.true;
      formed = l.invariant.formed;
      all = l.invariant.all;
    }
