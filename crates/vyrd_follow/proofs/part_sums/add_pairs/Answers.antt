use Rattle.vyrd_follow.proofs.Prelude.{◌≡◌, ℕ, ◌+◌, get_or, ap, ◌∙◌, sym, subst, arith, IsAmounts}
use Rattle.vyrd_follow.proofs.Prelude.{amount_of, with_amount, IsAmounts-with_amount}
use Rattle.vyrd_follow.proofs.Prelude.{given_map_push}
use Rattle.vyrd_base.proofs.SumLaws.{amount_of-plus, part_at_most}
use Rattle.vyrd_follow.proofs.part_sums.add_pairs.Goals as goal

pub loop-place-preserved : goal.loop-place-preserved
loop-place-preserved c =
    let j = c.loop-place.place in
    let known = c.loop-place.invariant in
    let f : ℕ → ℕ × ℕ = λ i. get_or c.args.pairs i (0, 0) in
    let key : ℕ = (f j).0 in
    let more : ℕ = (f j).1 in
    let sums = c.loop-place.sums in
    let now : c.set.new.self ≡ with_amount sums key (amount_of sums key + more) =
    c.in_ok-set.ensures
    ∙ ap (λ n. with_amount sums key (n + c.from.result)) c.amount-before.ensures.amount
    ∙ ap (λ n. with_amount sums key (amount_of sums key + n)) c.from.ensures in
    record {
      formed = subst IsAmounts (sym now) (IsAmounts-with_amount sums key
          (amount_of sums key + more) known.formed);
      sums = λ q. omega (
        arith,
        ap (λ s. amount_of s q) now,
        amount_of-plus sums key more q,
        known.sums q,
        given_map_push q f j,
      );
      low = λ q. omega (
        arith,
        known.low q,
        given_map_push q f j,
        part_at_most q key more,
        c.loop-place-test.element_fits2.fits,
      );
    }
