use Rattle.vyrd_trace.proofs.Prelude.{◌≡◌, ℕ, List, length, take, Some, slice_get, All, Stamped}
use Rattle.vyrd_trace.proofs.merge.place.Given as goal

abbrev pub invariant-loop-event : goal.invariant-loop-event
invariant-loop-event l = record {
  kept : (h : List Stamped) (i : ℕ) → All (λ (e : Stamped). slice_get h e.number ≡ Some e) l.lane
      → slice_get l.initial.history i ≡ slice_get h i → slice_get l.history i ≡ slice_get h i;
  placed : (h : List Stamped) → All (λ (e : Stamped). slice_get h e.number ≡ Some e) l.lane
      → length h ≡ length l.initial.history
      → All (λ (e : Stamped). slice_get l.history e.number ≡ Some e) (take l.event-index l.lane);
}
