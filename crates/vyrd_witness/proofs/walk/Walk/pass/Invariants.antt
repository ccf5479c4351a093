use Rattle.vyrd_witness.proofs.Prelude.{◌≡◌, take, vec_len, plain_words, newest_first}
use Rattle.vyrd_witness.proofs.Prelude.{words_through, effects_along, ArePhases}
use Rattle.vyrd_witness.proofs.walk.Walk.pass.Given as goal

abbrev pub invariant-loop-at : goal.invariant-loop-at
invariant-loop-at l = record {
  words : l.self.words.items ≡ words_through l.fn.self.words.items (effects_along l.front 0 l.at);
  count : vec_len l.self.words ≡ plain_words l.header;
  phases : ArePhases l.header l.self.phases.items (newest_first (take l.at l.front));
}
