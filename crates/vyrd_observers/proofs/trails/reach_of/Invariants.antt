use Rattle.vyrd_observers.proofs.Prelude.{◌≡◌, ◌≤◌, ◌+◌, ℕ, false, Some, slice_get, Asked}
use Rattle.vyrd_observers.proofs.trails.reach_of.Given as goal

abbrev pub invariant-loop-i : goal.invariant-loop-i
invariant-loop-i g l = record {
  free : (j : ℕ) (t : Asked) → l.i ≤ j → slice_get l.trails j ≡ Some t → t.is_asked ≡ false;
  steps : l.steps + l.i ≡ l.initial.steps + l.initial.reach;
}
