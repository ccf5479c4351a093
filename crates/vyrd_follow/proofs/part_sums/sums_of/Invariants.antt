use Rattle.vyrd_follow.proofs.Prelude.{◌≡◌, ◌*◌, ◌≤◌, ◌^◌, ℕ, flat_map, IsAmounts, amount_of, given}
use Rattle.vyrd_follow.proofs.Prelude.{numbers_below, part_pairs}
use Rattle.vyrd_follow.proofs.part_sums.sums_of.Given as goal

abbrev pub invariant-loop-part : goal.invariant-loop-part
invariant-loop-part g l =
    let d = g.D.Decode in record {
      formed : IsAmounts l.sums;
      given : (q : ℕ) → amount_of l.sums q ≡ given q (flat_map
          (part_pairs (d.width l.decoder) (d.places l.decoder) (d.gives l.decoder) l.words)
          (numbers_below l.part));
      low : (q : ℕ) → amount_of l.sums q ≤ l.part * (4 * 2 ^ 64);
    }
