use Rattle.vyrd_observers.proofs.Prelude.{◌≡◌, ◌<◌, ◌+◌, ℕ, false, Some, slice_get, Asked}
use Rattle.vyrd_observers.proofs.trails.find_free.Given as goal

abbrev pub invariant-loop-i : goal.invariant-loop-i
invariant-loop-i g l = record {
  none : (j : ℕ) (t : Asked) → j < l.i → slice_get l.trails j ≡ Some t → t.is_asked ≡ false → ⊥;
  steps : l.steps ≡ l.initial.steps + l.i;
}
