use Rattle.vyrd_view.proofs.Prelude.{◌≡◌, ℕ, ◌+◌, ◌*◌, ◌<◌, List, length, get_or, set, length-set}
use Rattle.vyrd_view.proofs.Prelude.{ap, ◌∙◌, arith, pair_at}
use Rattle.vyrd_view.proofs.DecodedLaws.{place_inside, place_outside}
use Rattle.vyrd_view.proofs.changed.part_changed.Goals as goal

pub loop-place-preserved : goal.loop-place-preserved
loop-place-preserved g c =
    let d = g.D.Decode in
    let decoder = c.args.decoder.now in
    let pairs : List (ℕ × ℕ) = c.loop-place.parts.pairs in
    let m : ℕ = c.args.part * d.places decoder + c.loop-place.place in
    let f : ℕ → ℕ × ℕ = pair_at (d.width decoder) (d.places decoder)
    (d.gives decoder) c.args.words.now in
    let at : c.args.part * c.places.result + c.loop-place.place ≡ m =
    cc (c.places.ensures) in
    let pair : ℕ × ℕ = get_or c.counted_part-pairs.result c.loop-place.place (0, 0) in
    let low : c.loop-place.place < d.places decoder =
    omega (arith, c.loop-place-test.true, c.places-place-end.ensures) in
    let is : pair ≡ f m = c.counted_part-pairs.ensures.pairs c.loop-place.place low in
    let within : m < length pairs =
    omega (arith, low, c.loop-place.invariant.places, c.requires.places) in
    let ok = c.in_ok-replace.ensures.ok in
    let now : c.replace.new.self.pairs ≡ set pairs m pair =
    cc in
    record {
      sound = cc (c.loop-place.invariant.sound);
      specified = cc (c.loop-place.invariant.specified);
      places = ap length now ∙ length-set pairs m pair ∙ c.loop-place.invariant.places;
      inside = λ j lower. cc (place_inside f c.args.part (d.places decoder) c.loop-place.place pairs
          pair within is c.loop-place.invariant.inside j lower);
      outside = λ k other. ap (λ s. get_or s k (0, 0)) now
          ∙ place_outside c.args.part (d.places decoder) c.loop-place.place pairs pair low k other
          ∙ c.loop-place.invariant.outside k other;
      counted = omega (arith, c.loop-place.invariant.counted, c.in_ok-replace.ensures.steps);
    }
