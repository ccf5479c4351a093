use Rattle.vyrd_shape.proofs.Prelude.{◌≡◌, ℕ, ◌+◌, ◌*◌, ◌<◌, ◌≤◌, length, get_or, rank}
use Rattle.vyrd_shape.proofs.stamps.renumber.Given as goal

abbrev pub invariant-loop-place : goal.invariant-loop-place
invariant-loop-place g l = record {
  lengths : length l.stamps.items ≡ length l.initial.stamps.items;
  ranks : (i : ℕ) → i < l.place → get_or l.stamps.items i 0 ≡ rank l.commits
      (get_or l.initial.stamps.items i 0);
  rest : (i : ℕ) → l.place ≤ i → get_or l.stamps.items i 0 ≡ get_or l.initial.stamps.items i 0;
  steps : l.steps ≡ l.fn.steps + l.place * (length l.commits + 1);
}
