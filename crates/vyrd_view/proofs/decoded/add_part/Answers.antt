use Rattle.vyrd_view.proofs.Prelude.{◌≡◌, ℕ, ◌+◌, ◌*◌, ◌^◌, ◌<◌, map, get_or, ap, ◌∙◌, arith}
use Rattle.vyrd_view.proofs.Prelude.{numbers_below, amount_of, given, amount_of-collected, pair_at}
use Rattle.vyrd_view.proofs.DecodedLaws.{place_within, place_fits, sums_more, sums_same}
use Rattle.vyrd_view.proofs.decoded.add_part.Goals as goal
use Rattle.vyrd_view.proofs.decoded.add_part.Goals.{then-pair-ne0+in_ok-add, else-pair-ne0}

pub add-requires : goal.add-requires
add-requires g c =
    let d = g.D.Decode in
    let decoder = c.args.decoder.now in
    let m = c.args.part * d.places decoder + c.loop-place.place in
    let f : ℕ → ℕ × ℕ = pair_at (d.width decoder) (d.places decoder)
    (d.gives decoder) c.args.words.now in
    let pair : ℕ × ℕ = get_or c.decoded_part-pairs.result c.loop-place.place (0, 0) in
    let low : c.loop-place.place < d.places decoder =
    omega (arith, c.loop-place-test.true, c.places-place-end.ensures) in
    let is : pair ≡ f m = c.decoded_part-pairs.ensures c.loop-place.place low in
    let inside : m < d.parts decoder * d.places decoder =
    place_within c.args.part (d.parts decoder) (d.places decoder) c.loop-place.place c.requires.part
    low in
    omega (
      arith,
      ap (λ s. amount_of s pair.0) c.loop-place.invariant,
      amount_of-collected (map f (numbers_below m)) pair.0,
      ap (λ (p : ℕ × ℕ). given p.0 (map f (numbers_below m))) is,
      ap (λ (p : ℕ × ℕ). p.1) is,
      place_fits (d.width decoder) (d.places decoder) (d.parts decoder)
          (d.gives decoder) c.args.words.now m (2 ^ 64)
          inside (c.requires.fits (f m).0),
    )

pub loop-place-preserved : goal.loop-place-preserved
loop-place-preserved g c =
    let d = g.D.Decode in
    let decoder = c.args.decoder.now in
    let m = c.args.part * d.places decoder + c.loop-place.place in
    let n = c.args.part * d.places decoder + (c.loop-place.place + 1) in
    let f : ℕ → ℕ × ℕ = pair_at (d.width decoder) (d.places decoder)
    (d.gives decoder) c.args.words.now in
    let pair : ℕ × ℕ = get_or c.decoded_part-pairs.result c.loop-place.place (0, 0) in
    let low : c.loop-place.place < d.places decoder =
    omega (arith, c.loop-place-test.true, c.places-place-end.ensures) in
    let is : pair ≡ f m = c.decoded_part-pairs.ensures c.loop-place.place low in
    let next : n ≡ m + 1 = omega arith in
    elim c.if-pair-ne0.branch [
      | then-pair-ne0+in_ok-add w ↦ sums_more f m n c.loop-place.sums c.if-pair-ne0.sums pair
          c.loop-place.invariant (w.sums-is ∙ w.in_ok-add.ensures.ok) is next
      | else-pair-ne0 w ↦ sums_same f m n c.loop-place.sums c.if-pair-ne0.sums pair
          c.loop-place.invariant w.sums-is is (omega (arith, w.if-pair-ne0.false)) next
    ]
