-- The keys that a write can matter to, by the part that its word is in.
use Rattle.vyrd_follow.proofs.Prelude.{◌≡◌, ◌≢◌, ℕ, ◌+◌, ◌*◌, ◌/◌, ◌^◌, ◌<◌, true, false, ◌||◌}
use Rattle.vyrd_follow.proofs.Prelude.{List, length, set, refl, ap, ◌∙◌, sym, arith, ◌==◌}
use Rattle.vyrd_follow.proofs.Prelude.{slice_index, set-get_or, Header, amount_of, collected, given}
use Rattle.vyrd_follow.proofs.Prelude.{plain_words, is_built_in, parts_of, view_of_words, low_size}
use Rattle.vyrd_follow.proofs.Prelude.{amount_of-collected, other_part, isnt_same, pairs_by}
use Rattle.vyrd_base.specs.declared.subject.Subject.TheVariants.{Multiset, Cache, Buffers}
use Rattle.vyrd_base.specs.Multiset.{slot_parts}
use Rattle.vyrd_view.specs.Pairs.{chunk_gives, buffer_gives}
use Rattle.vyrd_view.specs.Laws.Chunks.{chunks_fit, chunks_show}
use Rattle.vyrd_view.specs.Laws.Buffers.{buffers_fit, buffers_show}
use Rattle.vyrd_view.proofs.DecodedLaws.{pairs_given}
use Rattle.vyrd_witness.proofs.PartLaws.{slot_turned, few_shown, chunk_passed, buffer_passed}

-- a slot gives nothing to a key that isn't its value
slot_none : (q : ℕ) (words : List ℕ) (i : ℕ) → q ≢ slice_index words (2 * i + 1)
    → given q (slot_parts words i) ≡ 0
slot_none q words i apart = grind (arith, apart, given, other_part)

neither : (a b : ℕ) (q : ℕ) → q ≢ a → q ≢ b → (q == a || q == b) ≡ false
neither a b q not_a not_b = ap (λ t. t || q == b) (isnt_same q a not_a) ∙ isnt_same q b not_b

module _ (h : Header) (words : List ℕ) (w was : ℕ) (count : length words ≡ plain_words h) where
  pub slot_touched : (low high : ℕ) → h.subject ≡ Multiset → w < length words
      → ((q : ℕ) → q ≢ low → q ≢ high → q ≢ slice_index (set words w was) (2 * (w / 2) + 1))
      → ((q : ℕ) → q ≢ low → q ≢ high → q ≢ slice_index words (2 * (w / 2) + 1))
      → (q : ℕ) → q ≢ low → q ≢ high
      → amount_of (view_of_words h (set words w was)) q ≡ amount_of (view_of_words h words) q
  slot_touched low high is within before after q not_low not_high =
      let same : set words w (slice_index words w) ≡ words = set-get_or _ w 0 in
      let gives : 0 ≡ given q (slot_parts (set words w (slice_index words w)) (w / 2)) =
      sym (cc (slot_none q words (w / 2) (after q not_low not_high))) in
      let gave : 0 ≡ given q (slot_parts (set words w was) (w / 2)) =
      sym (slot_none q (set _ w _) (w / 2) (before q not_low not_high)) in
      omega (
        arith,
        slot_turned h words q w was is 0 0 (amount_of (view_of_words h (set words w was)) q) count
            within refl gave gives,
      )

  pub chunk_touched : h.subject ≡ Cache → (q : ℕ) → q ≢ w / 5 → q ≢ h.size + w / 5
      → amount_of (view_of_words h (set words w was)) q ≡ amount_of (view_of_words h words) q
  chunk_touched is q other past = search (chunk_passed, neither, arith)

  pub buffer_touched : h.subject ≡ Buffers → (q : ℕ) → q ≢ w / 8 → q ≢ h.size + w / 8
      → amount_of (view_of_words h (set words w was)) q ≡ amount_of (view_of_words h words) q
  buffer_touched is q other past = search (buffer_passed, neither, arith)

module _ (h : Header) (words : List ℕ) (q : ℕ) where
  pub slots_small : h.subject ≡ Multiset → is_built_in h.subject ≡ true
      → amount_of (view_of_words h words) q < 2 ^ 64
  slots_small is built = omega (arith, few_shown h words q is, low_size h built)

  pub chunks_small : h.subject ≡ Cache → amount_of (view_of_words h words) q < 2 ^ 64
  unfolding view_of_words
  chunks_small is =
      let pairs : List (ℕ × ℕ) = pairs_by 5 2 h.size (chunk_gives h.size) words in
      omega (
        arith,
        ap (λ s. amount_of (collected (parts_of s h.size words)) q) is
            ∙ ap (λ amounts. amount_of amounts q) (sym (chunks_show h.size words))
            ∙ amount_of-collected pairs q,
        chunks_fit h.size pairs q (pairs_given 5 2 h.size (chunk_gives h.size) words),
      )

  pub buffers_small : h.subject ≡ Buffers → amount_of (view_of_words h words) q < 2 ^ 64
  unfolding view_of_words
  buffers_small is =
      let pairs : List (ℕ × ℕ) = pairs_by 8 1 h.size (buffer_gives h.size) words in
      omega (
        arith,
        ap (λ s. amount_of (collected (parts_of s h.size words)) q) is
            ∙ ap (λ amounts. amount_of amounts q) (sym (buffers_show h.size words))
            ∙ amount_of-collected pairs q,
        buffers_fit h.size pairs q (pairs_given 8 1 h.size (buffer_gives h.size) words),
      )
