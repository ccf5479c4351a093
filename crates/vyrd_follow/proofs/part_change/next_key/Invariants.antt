use Rattle.vyrd_follow.proofs.Prelude.{◌≡◌, ◌≤◌, ℕ, true, IfSome, given, pairs_in, comes_before}
use Rattle.vyrd_follow.proofs.part_change.next_key.Given as goal

abbrev pub invariant-loop-place : goal.invariant-loop-place
invariant-loop-place l = record {
  from : IfSome l.next (λ key. l.from ≤ key);
  before : (q : ℕ) → comes_before l.next q ≡ true → comes_before l.fn.found q ≡ true;
  none : (q : ℕ) → l.from ≤ q → comes_before l.next q ≡ true
      → given q (pairs_in l.place l.pairs) ≡ 0;
}
