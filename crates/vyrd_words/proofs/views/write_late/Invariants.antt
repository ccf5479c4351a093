use Rattle.vyrd_words.proofs.Prelude.{◌≡◌, ◌+◌, ◌≤◌, ◌++◌, length, map, drop, vec_len, vec_capacity}
use Rattle.vyrd_words.proofs.Prelude.{with_writes, AreInRange}
use Rattle.vyrd_words.proofs.views.write_late.Given as goal

abbrev pub invariant-loop-write : goal.invariant-loop-write
invariant-loop-write g l = record {
  left : with_writes l.words.items (drop l.write-index l.late)
      ≡ with_writes l.initial.words.items l.late;
  in_range : AreInRange (vec_len l.words) (drop l.write-index l.late);
  changed : l.changed.items ++ map (λ write. write.0) (drop l.write-index l.late)
      ≡ l.initial.changed.items ++ map (λ write. write.0) l.late;
  room : vec_len l.changed + length l.late ≤ vec_capacity l.changed + l.write-index;
  within : l.write-index ≤ length l.late;
  all : vec_len l.words ≡ vec_len l.initial.words;
  steps : l.steps ≡ l.initial.steps + l.write-index;
}
