use Rattle.vyrd_observers.proofs.Prelude.{◌≡◌, ◌<◌, ◌+◌, ℕ, Some, slice_get, Asked, IsTrailOf}
use Rattle.vyrd_observers.proofs.trails.find.Given as goal

abbrev pub invariant-loop-i : goal.invariant-loop-i
invariant-loop-i g l = record {
  none : (j : ℕ) (t : Asked) → j < l.i → slice_get l.trails j ≡ Some t
      → IsTrailOf l.method l.args l.answer t → ⊥;
  steps : l.steps ≡ l.initial.steps + l.i;
}
