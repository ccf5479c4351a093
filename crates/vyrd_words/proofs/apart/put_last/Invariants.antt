use Rattle.vyrd_words.proofs.Prelude.{◌≡◌, ◌+◌, ◌≤◌, ◌++◌, length, take, vec_len, vec_capacity}
use Rattle.vyrd_words.proofs.Prelude.{written}
use Rattle.vyrd_words.proofs.apart.put_last.Given as goal

abbrev pub invariant-loop-word : goal.invariant-loop-word
invariant-loop-word g l = record {
  items : l.writes.items ≡ l.initial.writes.items ++ written l.words (take l.word-index l.changed);
  room : vec_len l.writes + length l.changed ≤ vec_capacity l.writes + l.word-index;
  steps : l.steps ≡ l.initial.steps + l.word-index;
}
