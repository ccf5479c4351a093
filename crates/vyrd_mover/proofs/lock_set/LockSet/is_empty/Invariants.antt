use Rattle.std.proofs.Common.{◌≡◌, ℕ, ◌^◌, ◌<◌, get_or}
use Rattle.vyrd_mover.proofs.lock_set.LockSet.is_empty.Given as goal

abbrev pub invariant-loop-word : goal.invariant-loop-word
invariant-loop-word l = record {
  small : (place : ℕ) → get_or l.word-items place 0 < 2 ^ 64;
  zeros : (place : ℕ) → place < l.word-index → get_or l.word-items place 0 ≡ 0;
}
