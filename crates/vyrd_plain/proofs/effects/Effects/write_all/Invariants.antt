use Rattle.vyrd_plain.proofs.Prelude.{◌≡◌, ℕ, List, [], ◌++◌, take, drop, words_with, writes_in}
use Rattle.vyrd_plain.proofs.effects.Effects.write_all.Given as goal

abbrev pub invariant-loop-at : goal.invariant-loop-at
invariant-loop-at l = record {
  header : l.self.header ≡ l.fn.self.header;
  open_blocks : l.self.open_blocks ≡ l.fn.self.open_blocks;
  words : (before : List (ℕ × ℕ)) → l.fn.self.words.items ≡ words_with l.fn.self.header [] before
      → l.self.words.items ≡ words_with l.fn.self.header []
      (writes_in l.caller (drop l.from (take l.at l.front)) ++ before);
}
