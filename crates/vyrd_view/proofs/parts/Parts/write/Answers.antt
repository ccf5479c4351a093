use Rattle.vyrd_view.proofs.Prelude.{◌≡◌, ℕ, ◌-◌, ◌*◌, ◌^◌, ◌<◌, ◌≤◌, false, ap, sym, ◌∙◌, arith}
use Rattle.vyrd_view.proofs.Prelude.{get_or, set, length, length-set, given, part_given, own_part}
use Rattle.vyrd_base.proofs.SumLaws.{given-set}
use Rattle.vyrd_view.specs.Laws.Sums.{each_bounds}
use Rattle.vyrd_view.proofs.PlacedLaws.{each-set}
use Rattle.vyrd_view.proofs.PairLaws.{part-le-given}
use Rattle.vyrd_view.proofs.parts.Parts.write.Goals as goal

pub change-requires-clause-enough : goal.change-requires-clause-enough
change-requires-clause-enough g c =
    grind (
      arith,
      c.index-before.ensures,
      own_part c.index-before.result.now.0
          c.index-before.result.now.1,
      part-le-given,
    )

-- the pairs give less than 2^128 to a key, with the new one
pub change-requires-clause-fits : goal.change-requires-clause-fits
change-requires-clause-fits g c =
    let pairs = c.self.inside.pairs.items in
    let before = c.index-before.result.now in
    let pair : ℕ × ℕ = (c.args.key, c.args.amount) in
    let sound : c.self.inside.refused ≡ false = ap (λ k. k.refused) c.self.view_is
    ∙ c.requires.sound in
    let low : c.args.place < length pairs =
    omega (arith, ap (λ k. length k.pairs) c.self.view_is, c.requires.place) in
    let is : part_given pair.0 (get_or pairs c.args.place before) ≡ part_given pair.0 before =
    ap (part_given pair.0) (sym c.index-before.ensures) in
    let most : given pair.0 (set pairs c.args.place pair) ≤ length (set pairs c.args.place pair)
    * (2 ^ 64 - 1) =
    each_bounds (2 ^ 64 - 1) pair.0 (set pairs c.args.place pair)
    (λ i inner. each-set (2 ^ 64 - 1) pairs c.args.place pair low
    (omega (arith, c.ranges.amount.fits)) ((c.self.invariant sound).2) i) in
    omega (
      arith,
      (c.self.invariant sound).1 pair.0,
      given-set pair.0 pairs c.args.place pair before low,
      is,
      own_part pair.0 pair.1,
      most,
      length-set pairs c.args.place pair,
      c.self.inside.pairs.ok.0,
    )

pub invariant_of-self : goal.invariant_of-self
invariant_of-self = grind (arith, given-set, each-set)
