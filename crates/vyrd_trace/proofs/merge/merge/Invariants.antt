use Rattle.vyrd_trace.proofs.Prelude.{◌≡◌, ℕ, ◌<◌, List, length, Some, slice_get, Stamped, IsMerge}
use Rattle.vyrd_trace.proofs.Prelude.{lanes_of}
use Rattle.vyrd_trace.proofs.merge.merge.Given as goal

abbrev pub invariant-loop-hand : goal.invariant-loop-hand
invariant-loop-hand l = (h : List Stamped) → IsMerge h (lanes_of l.hands) → length h
    ≡ length l.history
    → (i : ℕ) (e : Stamped) → slice_get h i ≡ Some e → e.caller < l.hand-index
    → slice_get l.history i ≡ Some e
