-- The string buffers as a structure: a buffer's lock guards its words, and nothing is reserved.
use Rattle.vyrd_every.proofs.Prelude
use Prelude.{◌≡◌, ℕ, ◌+◌, ◌*◌, ◌/◌, ◌<◌, ◌≤◌, true, List, [], ◌∷◌, map, refl, ap, ◌∙◌, sym, subst}
use Prelude.{arith, flat_map, slice_index, Header, Buffers, Entry, numbers_below, plain_words}
use Prelude.{plain_words_of, Amounts, collected, given, start, ended_effects, ended_value}
use Prelude.{ended_words, parts_of, view_of_words, is_sound, given_nothing, pass_all, words_in}
use Prelude.{element_below, flat_map_alike, collected-is, Represents, buffer_of, shown, sound_at}
use Prelude.{Fits, shown_by, buffers}
use Rattle.vyrd_base.specs.Buffers.{Buffer, buffer_at, is_buffer, buffer_parts}
use Rattle.vyrd_buffers.specs.Laws.Alone.Changes.{Alike, sound_alike, shown_alike, buffer_in}
use Rattle.vyrd_buffers.specs.Laws.Sound.{lock_cell}

-- what a buffer gives that has the same words as a sound one
gives : (size k : ℕ) (a b : Buffer) → Alike a b → is_buffer b ≡ true → buffer_parts size k a
    ≡ (k, shown b) ∷ []
gives size k a b alike sound = grind (arith, alike, shown, sound_alike, shown_alike)

-- nothing was written yet
nothing_given : (q k : ℕ) → given q ((k, shown (buffer_of (shown_by []) k)) ∷ []) ≡ 0
nothing_given q k = grind (arith, given, shown, shown_by)

empty_represents : (h : Header) → h.subject ≡ Buffers → Represents h (shown_by []) start.shown
unfolding view_of_words
empty_represents h is =
    record {
      sound = subst (λ subject. is_sound subject h.size (words_in h (shown_by [])) ≡ true) (sym is)
          (pass_all (λ j. is_buffer (buffer_at _ j)) 0 h.size (λ j from to.
          let below : j < h.size = omega (arith, to) in
          sound_alike (buffer_at _ j) (buffer_of (shown_by []) j) (buffer_in h _ j is below)));
      free = λ lock from to. refl;
      shows = ap (λ subject. collected (parts_of subject h.size (words_in h (shown_by [])))) is
          ∙ collected-is
          (flat_map (λ k. buffer_parts h.size k (buffer_at _ k)) (numbers_below h.size)) _ _
          (λ q. given_nothing (λ k. buffer_parts h.size k (buffer_at _ k)) q 0 h.size (λ j from to.
          let below : j < h.size = omega (arith, to) in
          ap (given q)
          (gives h.size j (buffer_at _ j) (buffer_of (shown_by []) j) (buffer_in h _ j is below)
          refl) ∙ nothing_given q j));
    }

-- the view of the words that the log leaves is the state that they represent
view_is : (h : Header) (log : List Entry) (state : Amounts) → h.subject ≡ Buffers
    → Represents h (shown_by log) state
    → view_of_words h (ended_words h log) ≡ state
unfolding view_of_words ended_words
view_is h log state is s = ap (λ t. collected (parts_of t h.size words)) is
    ∙ ap collected (flat_map_alike (λ k. buffer_parts h.size k (buffer_at words k))
    (λ k. buffer_parts h.size k (buffer_at (words_in h (shown_by log)) k)) 0 h.size each)
    ∙ ap (λ t. collected (parts_of t h.size (words_in h (shown_by log)))) (sym is) ∙ s.shows
  where
    words : List ℕ
    words = map (ended_value (ended_effects log)) (numbers_below (plain_words h))

    word : (cell : ℕ) → cell < 8 * h.size → slice_index words cell ≡ shown_by log cell
    word cell low = search (element_below, arith)

    alike : (k : ℕ) → k < h.size → Alike (buffer_at words k) (buffer_of (shown_by log) k)
    alike k low = record {
      count = word (8 * k) (omega (arith, low));
      characters = λ i few. word
          (8 * k + (1 + i)) (omega (arith, low, few));
    }

    each : (k : ℕ) → 0 ≤ k → k < 0 + h.size
        → buffer_parts h.size k (buffer_at words k) ≡ buffer_parts h.size k
        (buffer_at (words_in h (shown_by log)) k)
    each k from to =
        let below : k < h.size = omega (arith, to) in
        let sound : is_buffer (buffer_of (shown_by log) k) ≡ true = sound_at h (shown_by log) state
        k is s below in
        gives h.size k (buffer_at words k) (buffer_of (shown_by log) k) (alike k below) sound
        ∙ sym (gives h.size k (buffer_at (words_in h (shown_by log)) k) (buffer_of (shown_by log) k)
        (buffer_in h (shown_by log) k is below) sound)

-- they fit a header of string buffers
pub buffers_fit : (h : Header) → h.version ≡ 1 → h.subject ≡ Buffers → Fits (buffers h)
buffers_fit h one is = record {
  version = one;
  plain = λ cell low. subst (λ s. cell < plain_words_of s h.size) (sym is) low;
  locks = λ cell low. lock_cell h (cell / 8) is (omega (arith, low));
  begins = empty_represents h is;
  view = λ log state s. view_is h log state is s;
}
