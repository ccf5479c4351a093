use Rattle.vyrd_follow.proofs.Prelude.{◌≡◌, subst, ap, ◌∙◌, arith, IsAmounts, amount_of, given}
use Rattle.vyrd_follow.proofs.Prelude.{same_amounts, IsAmounts-collected, pairs_by, view_by}
use Rattle.vyrd_follow.proofs.Prelude.{pairs_in}
use Rattle.vyrd_own_states.proofs.PairLaws.{part_added, all_parts}
use Rattle.vyrd_follow.proofs.part_sums.sums_of.Goals as goal

pub loop-part-preserved : goal.loop-part-preserved
loop-part-preserved g c =
    let d = g.D.Decode in
    let decoder = c.args.decoder.now in
    let words = c.args.words.now in
    let part = c.loop-part.part in
    let known = c.loop-part.invariant in
    let added = c.in_ok-add_pairs.ensures in record {
      formed = added.formed;
      given = λ q. added.sums q
          ∙ part_added (d.width decoder) (d.places decoder) (d.gives decoder) words q part
          (amount_of c.loop-part.sums q) (given q (pairs_in c.places.result c.pairs_of.result))
          (known.given q)
          (ap (λ n. given q (pairs_in n c.pairs_of.result)) c.places.ensures
          ∙ c.pairs_of.ensures q);
      low = λ q. omega (arith, known.low q, added.low q);
    }

pub returns : goal.returns
returns g c =
    let d = g.D.Decode in
    let decoder = c.args.decoder.now in
    let words = c.args.words.now in
    let known = c.loop-part.invariant in
    let view = view_by (d.shows decoder) words in
    let shown = g.met.D.Decode.shown decoder words c.requires.count in
    let end : c.loop-part.part ≡ d.parts decoder =
    omega (arith, c.loop-part-test.false, c.loop-part.auto.part-end, c.parts-part-end.ensures) in
    same_amounts c.loop-part.sums view known.formed
    (subst IsAmounts shown (IsAmounts-collected
    (pairs_by (d.width decoder) (d.places decoder) (d.parts decoder) (d.gives decoder) words)))
    (λ q. all_parts (d.width decoder) (d.places decoder) (d.gives decoder) words q c.loop-part.part
    (amount_of c.loop-part.sums q) (d.parts decoder) view end (known.given q) shown)
