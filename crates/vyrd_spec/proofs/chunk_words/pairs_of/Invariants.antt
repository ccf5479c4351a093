use Rattle.vyrd_spec.proofs.Prelude.{◌≡◌, true, map, list_all, numbers_below, chunk_at}
use Rattle.vyrd_spec.proofs.Prelude.{is_sound_chunk, shown_pair}
use Rattle.vyrd_spec.proofs.chunk_words.pairs_of.Given as goal

abbrev pub invariant-loop-chunk : goal.invariant-loop-chunk
invariant-loop-chunk l = record {
  sound : list_all (λ h. is_sound_chunk (chunk_at l.words h)) (numbers_below l.chunk) ≡ true;
  shown : l.pairs.items ≡ map (λ h. shown_pair (chunk_at l.words h)) (numbers_below l.chunk);
}
