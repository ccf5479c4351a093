-- The cache as a structure: a chunk's lock guards its words, and nothing is reserved.
use Rattle.vyrd_every.proofs.Prelude
use Prelude.{◌≡◌, ℕ, ◌/◌, ◌<◌, true, List, [], refl, ap, ◌∙◌, sym, subst, arith, flat_map, Header}
use Prelude.{Cache, Entry, numbers_below, plain_words_of, Amounts, collected, given, start}
use Prelude.{ended_words, chunk_at, chunk_parts, parts_of, view_of_words, is_sound, is_sound_chunk}
use Prelude.{given_nothing, pass_all, words_in, element_below, flat_map_alike, collected-is}
use Prelude.{Represents, chunk_of, same_chunk, chunk_in, Fits, shown_by, cache}
use Rattle.vyrd_cache.specs.Laws.Sound.{lock_cell}

-- nothing was written yet
nothing_given : (size q k : ℕ) → given q (chunk_parts size k (chunk_of (shown_by []) k)) ≡ 0
nothing_given size q k = grind (arith, given, shown_by)

empty_represents : (h : Header) → h.subject ≡ Cache → Represents h (shown_by []) start.shown
unfolding view_of_words
empty_represents h is = record {
  sound = subst (λ subject. is_sound subject h.size (words_in h (shown_by [])) ≡ true) (sym is)
      (pass_all (λ j. is_sound_chunk (chunk_at (words_in h _) j)) 0 h.size (λ j from to.
      let below : j < h.size = omega (arith, to) in ap is_sound_chunk
      (chunk_in h (shown_by []) j is below)));
  free = λ lock from to. refl;
  shows = ap (λ subject. collected (parts_of subject h.size (words_in h (shown_by [])))) is
      ∙ collected-is (flat_map (λ k. chunk_parts h.size k (chunk_at (words_in h (shown_by [])) k))
      (numbers_below h.size)) _
      _
      (λ q. given_nothing (λ k. chunk_parts h.size k (chunk_at (words_in h (shown_by [])) k)) q 0
      h.size (λ j from to.
      let below : j < h.size = omega (arith, to) in
      cc (chunk_in h (shown_by []) j is below, nothing_given h.size q j)));
}

-- the view of the words that the log leaves is the state that they represent
view_is : (h : Header) (log : List Entry) (state : Amounts) → h.subject ≡ Cache
    → Represents h (shown_by log) state
    → view_of_words h (ended_words h log) ≡ state
unfolding view_of_words ended_words
view_is h log state is s = search
    (collected, parts_of, flat_map_alike, shown_by, element_below, same_chunk, chunk_in, arith)

-- it fits a header of the cache
pub cache_fits : (h : Header) → h.version ≡ 1 → h.subject ≡ Cache → Fits (cache h)
cache_fits h one is = record {
  version = one;
  plain = λ cell low. subst (λ s. cell < plain_words_of s h.size) (sym is) low;
  locks = λ cell low. lock_cell h (cell / 5) is (omega (arith, low));
  begins = empty_represents h is;
  view = λ log state s. view_is h log state is s;
}
