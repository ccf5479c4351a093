use Rattle.vyrd_observers.proofs.Prelude.{◌≡◌, ◌≤◌, ◌<◌, ◌+◌, ℕ, Some, slice_get, Watch}
use Rattle.vyrd_observers.proofs.leaving.first_that_counts.Given as goal

abbrev pub invariant-loop-watch : goal.invariant-loop-watch
invariant-loop-watch g l = record {
  asks : (n : ℕ) → l.first ≡ Some n
      → (c : ℕ) × (slice_get l.watches c ≡ Some (Some (record { trail = l.trail; since = n })));
  counts : (c : ℕ) (w : Watch) → c < l.watch-index → slice_get l.watches c ≡ Some (Some w)
      → w.trail ≡ l.trail
      → (n : ℕ) × (l.first ≡ Some n) × (n ≤ w.since);
  steps : l.steps ≡ l.initial.steps + l.watch-index;
}
