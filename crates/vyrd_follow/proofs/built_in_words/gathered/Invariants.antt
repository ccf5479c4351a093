use Rattle.vyrd_follow.proofs.Prelude.{◌≡◌, take, IsAmounts, view_of_words}
use Rattle.vyrd_follow.proofs.built_in_words.gathered.Given as goal

abbrev pub invariant-loop-key : goal.invariant-loop-key
invariant-loop-key l = record {
  shown : l.shown ≡ take l.key-index l.key-items;
  formed : IsAmounts l.key-items;
  all : l.key-items ≡ view_of_words l.fn.header l.words;
}
