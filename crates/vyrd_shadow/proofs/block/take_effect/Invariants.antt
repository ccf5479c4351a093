use Rattle.vyrd_shadow.proofs.Prelude.{keys_of, with_writes, AreInRange}
use Rattle.std.proofs.Common.{vec_len, ◌≡◌, ◌+◌, ◌≤◌, ◌++◌, length, drop}
use Rattle.std.specs.Prelude.{vec_capacity}
use Rattle.vyrd_shadow.proofs.block.take_effect.Given as goal

abbrev pub invariant-loop-word : goal.invariant-loop-word
invariant-loop-word g l = record {
  left : with_writes l.words (drop l.word-index l.writes) ≡ with_writes l.initial.words l.writes;
  in_range : AreInRange (length l.words) (drop l.word-index l.writes);
  words : l.changed.items ++ keys_of (drop l.word-index l.writes) ≡ l.initial.changed.items
      ++ keys_of l.writes;
  room : vec_len l.changed + length l.writes ≤ vec_capacity l.changed + l.word-index;
  within : l.word-index ≤ length l.writes;
  capacity : vec_capacity l.changed ≡ vec_capacity l.initial.changed;
  steps : l.steps ≡ l.initial.steps + l.word-index;
}
