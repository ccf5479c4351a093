use Rattle.vyrd_spec.proofs.Prelude.{◌≡◌, true, map, list_all, numbers_below, buffer_at, is_buffer}
use Rattle.vyrd_spec.specs.Texts.{text_of_buffer}
use Rattle.vyrd_spec.proofs.buffer_words.texts_of.Given as goal

abbrev pub invariant-loop-buffer : goal.invariant-loop-buffer
invariant-loop-buffer l = record {
  sound : list_all (λ b. is_buffer (buffer_at l.words b)) (numbers_below l.buffer) ≡ true;
  shown : l.texts.items ≡ map (λ b. text_of_buffer (buffer_at l.words b)) (numbers_below l.buffer);
}
