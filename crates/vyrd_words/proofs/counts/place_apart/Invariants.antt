use Rattle.vyrd_words.proofs.Prelude.{◌≡◌, ◌+◌, take, drop, apart_in}
use Rattle.vyrd_words.proofs.counts.place_apart.Given as goal

abbrev pub invariant-loop-later : goal.invariant-loop-later
invariant-loop-later g l = record {
  left : l.place ≡ apart_in (take l.index l.bytes.items) + apart_in (drop l.later l.bytes.items);
  steps : l.steps + l.index ≡ l.initial.steps + l.later;
}
