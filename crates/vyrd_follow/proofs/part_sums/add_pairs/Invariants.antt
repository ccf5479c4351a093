use Rattle.vyrd_follow.proofs.Prelude.{◌≡◌, ◌+◌, ◌*◌, ◌≤◌, ◌^◌, ℕ, IsAmounts, amount_of, given}
use Rattle.vyrd_follow.proofs.Prelude.{pairs_in}
use Rattle.vyrd_follow.proofs.part_sums.add_pairs.Given as goal

abbrev pub invariant-loop-place : goal.invariant-loop-place
invariant-loop-place l = record {
  formed : IsAmounts l.sums;
  sums : (q : ℕ) → amount_of l.sums q
      ≡ amount_of l.fn.sums q + given q (pairs_in l.place l.pairs);
  low : (q : ℕ) → given q (pairs_in l.place l.pairs) ≤ l.place * 2 ^ 64;
}
