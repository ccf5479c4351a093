use Rattle.std.proofs.Common.{◌≡◌, ℕ, ◌<◌, ◌≤◌, true, false, get_or}
use Rattle.vyrd_view.proofs.tree.are_same.Given as goal

abbrev pub invariant-loop-place : goal.invariant-loop-place
invariant-loop-place l = record {
  same : l.same ≡ true → (n : ℕ) → l.from ≤ n → n < l.place
      → get_or l.marks n false ≡ get_or l.next n false;
}
