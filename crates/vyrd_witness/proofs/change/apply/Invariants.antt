use Rattle.vyrd_witness.proofs.Prelude.{◌≡◌, drop, vec_len, words_through}
use Rattle.vyrd_witness.proofs.change.apply.Given as goal

abbrev pub invariant-loop-effect : goal.invariant-loop-effect
invariant-loop-effect l = record {
  count : vec_len l.words ≡ vec_len l.fn.words;
  through : words_through l.fn.words.items l.effects
      ≡ words_through l.words.items (drop l.effect-index l.effects);
}
