use Rattle.vyrd_view.proofs.Prelude.{◌≡◌, ℕ, ◌/◌, get_or, ◌∙◌, arith, pair_at}
use Rattle.vyrd_view.proofs.DecodedLaws.{part_places, part_within, part_of_within}
use Rattle.vyrd_view.proofs.PairLaws.{all_kept}
use Rattle.vyrd_view.proofs.PlacedLaws.{parts_fresh_more, untouched_end, mapped}
use Rattle.vyrd_view.proofs.changed.parts_changed.Goals as goal

pub part_changed-requires-clause-places : goal.part_changed-requires-clause-places
part_changed-requires-clause-places = grind (arith, part_of_within, part_within)

pub loop-word-preserved : goal.loop-word-preserved
loop-word-preserved g c =
    let d = g.D.Decode in
    let decoder = c.args.decoder.now in
    let f : ℕ → ℕ × ℕ = pair_at (d.width decoder) (d.places decoder)
    (d.gives decoder) c.args.words.now in
    let word = get_or c.args.changed.now c.loop-word.word-index 0 in
    let part : word / c.width.result ≡ word / (d.width decoder) =
    cc (c.width.ensures) in
    let ok = c.in_ok-part_changed.ensures in
    record {
      sound = ok.sound;
      specified = ok.specified ∙ c.loop-word.invariant.specified;
      places = ok.places ∙ c.loop-word.invariant.places;
      others = parts_fresh_more (d.width decoder) (d.places decoder) f c.loop-word.parts.pairs
          c.part_changed.new.parts.pairs c.args.changed.now c.loop-word.word-index
          c.loop-word-test.true ok.places
          (part_places f c.part_changed.new.parts.pairs (d.places decoder)
          (word / (d.width decoder))
          (rw (← part) ok.inside) (c.loop-word.parts.pairs) ((g.met.D.Decode.narrow decoder).2))
          (λ m other. ok.outside m (λ same. other (same ∙ part)))
          c.loop-word.invariant.others;
      counted = omega (arith, c.loop-word.invariant.counted, ok.steps);
    }

pub returns-clause-ok : goal.returns-clause-ok
returns-clause-ok = grind (arith, all_kept, mapped, untouched_end)
