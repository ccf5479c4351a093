use Rattle.vyrd_trace.proofs.Prelude.{◌≡◌, ◌<◌, ◌+◌, ◌/◌, ℕ, vec_len, vec_capacity, slice_index}
use Rattle.vyrd_trace.proofs.Prelude.{slots_items}
use Rattle.vyrd_trace.proofs.close.halve_words.Given as goal

abbrev pub invariant-loop-k : goal.invariant-loop-k
invariant-loop-k l = record {
  count : vec_len l.words ≡ l.k;
  room : vec_capacity l.words ≡ vec_capacity l.initial.words;
  halves : (j : ℕ) → j < l.k → slice_index l.words.items j
      ≡ slice_index (slots_items l.closed.words) (j + 1) / 2;
}
