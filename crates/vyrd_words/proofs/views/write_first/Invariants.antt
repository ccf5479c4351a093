use Rattle.vyrd_words.proofs.Prelude.{◌≡◌, ◌+◌, ◌-◌, ◌≤◌, ◌++◌, length, map, take, drop, vec_len}
use Rattle.vyrd_words.proofs.Prelude.{vec_capacity, with_writes, AreInRange}
use Rattle.vyrd_words.proofs.views.write_first.Given as goal

abbrev pub invariant-loop : goal.invariant-loop
invariant-loop g l = record {
  left : l.count - l.counter ≤ length l.writes.items;
  in_range : AreInRange (vec_len l.initial.words) l.writes.items;
  words : with_writes l.words.items (take (l.count - l.counter) l.writes.items)
      ≡ with_writes l.initial.words.items (take l.count l.initial.writes.items);
  changed : l.changed.items ++ map (λ write. write.0) (take (l.count - l.counter) l.writes.items)
      ≡ l.initial.changed.items ++ map (λ write. write.0) (take l.count l.initial.writes.items);
  writes : drop (l.count - l.counter) l.writes.items ≡ drop l.count l.initial.writes.items;
  all : vec_len l.words ≡ vec_len l.initial.words;
  room : vec_len l.changed + (l.count - l.counter) ≤ vec_capacity l.changed;
  steps : l.steps ≡ l.initial.steps + l.counter;
  capacity : vec_capacity l.initial.changed ≤ vec_capacity l.changed;
}
