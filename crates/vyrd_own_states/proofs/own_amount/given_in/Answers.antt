use Rattle.std.proofs.Common.{ℕ, ◌+◌, get_or, refl, ap, ◌∙◌, arith}
use Rattle.vyrd_own_states.proofs.PairLaws.{place_given, place_passed}
use Rattle.vyrd_own_states.proofs.own_amount.given_in.Goals as goal
use Rattle.vyrd_own_states.proofs.own_amount.given_in.Goals.{then-pairs-place, else-pairs-place}

pub loop-place-preserved : goal.loop-place-preserved
loop-place-preserved c =
    let j = c.loop-place.place in
    let amount = c.loop-place.amount in
    let known = c.loop-place.invariant in
    let f : ℕ → ℕ × ℕ = λ i. get_or c.args.pairs i (0, 0) in
    elim c.if-pairs-place.branch [
      | then-pairs-place w ↦ record {
        given = w.amount-is ∙ ap (λ n. amount + n) w.from-amount.ensures
            ∙ place_given f c.args.key j amount (f j) known.given refl w.if-pairs-place.true;
        low = omega (
          arith,
          w.amount-is,
          w.from-amount.ensures,
          w.if-pairs-place.element_fits,
          known.low,
        );
      }
      | else-pairs-place w ↦ record {
        given = w.amount-is
            ∙ place_passed f c.args.key j amount (f j) known.given refl w.if-pairs-place.false;
        low = omega (arith, w.amount-is, known.low);
      }
    ]
