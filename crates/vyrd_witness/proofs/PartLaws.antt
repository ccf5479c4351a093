-- What the words of a built-in subject show of a key, where one of them has changed: only what its
-- part gives can be other than before.
use Rattle.vyrd_witness.proofs.Prelude
use Prelude.{◌≡◌, ◌≢◌, ℕ, zero, suc, ◌+◌, ◌*◌, ◌/◌, ◌%◌, ◌<◌, ◌≤◌, Bool, true, false, ◌||◌, List}
use Prelude.{[], ◌∷◌, length, map, set, refl, ap, ◌∙◌, sym, subst, arith, get_or-set_other, ◌==◌}
use Prelude.{flat_map, slice_index, set-get_or, length-set, div-add-mod, mod-lt, Header, Subject}
use Prelude.{Multiset, Cache, Buffers, collected, given, plain_words, plain_words_of, slot_parts}
use Prelude.{numbers_below, rules_of, parts_of, view_of_words, same_of, apart_of, isnt_same}
use Prelude.{neither_true, AgreeElsewhere, Gives, words_of, pairs_by, chunk_gives, buffer_gives}
use Prelude.{given_flat_push, places_give, chunks_show, buffers_show, own_untouched, amount_shown}
use Rattle.vyrd_base.proofs.SumLaws.{amount_of-collected, given_at_most, other_part, part_at_most}

-- ---- what parts give together

module _ (q : ℕ) (f g : ℕ → List (ℕ × ℕ)) where
  -- one part more, of both
  both_more : (n : ℕ)
      → given q (flat_map f (numbers_below n)) ≡ given q (flat_map g (numbers_below n))
      → given q (f n) ≡ given q (g n)
      → given q (flat_map f (numbers_below (n + 1))) ≡ given q (flat_map g (numbers_below (n + 1)))
  both_more n same here = omega (arith, same, here, given_flat_push q f n, given_flat_push q g n)

  -- parts that give the same
  pub all_alike : (n : ℕ) → ((i : ℕ) → i < n → given q (f i) ≡ given q (g i))
      → given q (flat_map f (numbers_below n)) ≡ given q (flat_map g (numbers_below n))
  all_alike zero same = refl
  all_alike (suc n) same =
      let one : n + 1 ≡ suc n = omega arith in
      subst (λ k. given q (flat_map f (numbers_below k)) ≡ given q (flat_map g (numbers_below k)))
      one (both_more n (all_alike n (λ i low. same i (omega (arith, low)))) (same n (omega arith)))

  -- parts of which one may differ
  pub one_apart : (p n : ℕ) → p < n → ((i : ℕ) → i ≢ p → given q (f i) ≡ given q (g i))
      → given q (flat_map f (numbers_below n)) + given q (g p)
      ≡ given q (flat_map g (numbers_below n)) + given q (f p)
  one_apart p zero low same = absurd (omega (arith, low))
  one_apart p (suc n) low same =
      let one : n + 1 ≡ suc n = omega arith in
      subst (λ k. given q (flat_map f (numbers_below k)) + given q (g p)
      ≡ given q (flat_map g (numbers_below k)) + given q (f p)) one
      (by_test (n == p) refl (λ lower. one_apart p n lower same))
    where
      by_test : (b : Bool) → (n == p) ≡ b
          → (p < n → given q (flat_map f (numbers_below n)) + given q (g p)
          ≡ given q (flat_map g (numbers_below n)) + given q (f p))
          → given q (flat_map f (numbers_below (n + 1))) + given q (g p)
          ≡ given q (flat_map g (numbers_below (n + 1))) + given q (f p)
      by_test true e fewer = search (same_of, all_alike, given_flat_push, given, arith)
      by_test false e fewer = search (apart_of, given_flat_push, arith)

-- ---- a multiset

-- a slot gives 1 at most
pub slot_at_most : (q : ℕ) (words : List ℕ) (i : ℕ) → given q (slot_parts words i) ≤ 1
slot_at_most q words i = grind (arith, given, part_at_most)

-- the slots that the word isn't in
slot_elsewhere : (words : List ℕ) (w v i : ℕ) → i ≢ w / 2
    → slot_parts (set words w v) i ≡ slot_parts words i
slot_elsewhere words w v i other =
    let whole = div-add-mod w 2 in
    let rest : w % 2 < 2 = mod-lt w (omega arith) in
    let state : 2 * i ≢ w = λ at. other (omega (arith, at, whole, rest)) in
    let value : 2 * i + 1 ≢ w = λ at. other (omega (arith, at, whole, rest)) in
    cc (get_or-set_other words w (2 * i) v 0 state, get_or-set_other words w (2 * i + 1) v 0 value)

-- what the words of a multiset show is what its slots give
shown_slots : (h : Header) (words : List ℕ) (q : ℕ) → h.subject ≡ Multiset
    → amount_shown (rules_of h) words q
    ≡ given q (flat_map (slot_parts words) (numbers_below (4 * h.size)))
unfolding view_of_words
shown_slots h words q is = search (collected, parts_of, amount_of-collected, arith)

-- they don't show much
pub few_shown : (h : Header) (words : List ℕ) (q : ℕ) → h.subject ≡ Multiset
    → amount_shown (rules_of h) words q ≤ 4 * h.size
few_shown h words q is =
    omega (
      arith,
      shown_slots h words q is,
      given_at_most (slot_parts words) 1 q 0 (4 * h.size) (slot_at_most q words),
    )

module _ (h : Header) (words : List ℕ) (q w was : ℕ) (is : h.subject ≡ Multiset) where
  -- what the word's slot gave gives way to what it gives now
  pub slot_turned : (old new before : ℕ) → length words ≡ plain_words h → w < length words
      → before ≡ amount_shown (rules_of h) (set words w was) q
      → old ≡ given q (slot_parts (set words w was) (w / 2))
      → new ≡ given q (slot_parts (set words w (slice_index words w)) (w / 2))
      → before + new ≡ amount_shown (rules_of h) words q + old
  slot_turned old new before count within shown gave gives =
      let all = count ∙ ap (λ s. plain_words_of s h.size) is in
      let low : w / 2 < 4 * h.size =
      omega (arith, all, within, div-add-mod w 2) in
      let one = one_apart q (slot_parts (set words w was)) (slot_parts words) (w / 2) (4 * h.size)
      low (λ i other. ap (given q) (slot_elsewhere words w was i other)) in
      let now = gives ∙ ap (λ ws. given q (slot_parts ws (w / 2))) (set-get_or words w 0) in
      let before_is = shown ∙ shown_slots h (set words w was) q is in
      omega (arith, before_is, shown_slots h words q is, gave, now, one)

-- ---- parts that give nothing to the key

module _ (width places parts : ℕ) (gives : Gives) (words : List ℕ) (q w v : ℕ) where
  abbrev by_part : List ℕ → ℕ → List (ℕ × ℕ)
  by_part all i = map (gives i (words_of width i all)) (numbers_below places)

  agree : AgreeElsewhere words (set words w v) (w ∷ [])
  agree x untouched =
      let both = neither_true (w == x) false untouched in
      let other : w ≢ x = apart_of w x both.0 in
      get_or-set_other words w x v 0 (λ same. other (sym same))

  -- what they show is the same, whatever the word is
  passed : length words ≡ parts * width
      → ((own : List ℕ) → given q (map (gives (w / width) own) (numbers_below places)) ≡ 0)
      → given q (pairs_by width places parts gives (set words w v))
      ≡ given q (pairs_by width places parts gives words)
  passed count none = places_give width places gives (set words w v) q (by_part (set words w v))
      (λ p. refl) parts ∙ all_alike q (by_part (set words w v)) (by_part words) parts
      (λ i low. by_test i low (i == w / width) refl)
      ∙ sym (places_give width places gives words q (by_part words) (λ p. refl) parts)
    where
      by_test : (i : ℕ) → i < parts → (b : Bool) → (i == w / width) ≡ b
          → given q (by_part (set words w v) i) ≡ given q (by_part words i)
      by_test i low true e = grind arith
      by_test i low false e =
          let other : i ≢ w / width = apart_of i (w / width) e in
          let untouched = isnt_same (w / width) i (λ same. other (sym same)) in
          ap (λ own. given q (map (gives i own) (numbers_below places)))
          (own_untouched width i parts words (set words w v) (w ∷ []) low count
          (length-set words w v ∙ count) agree (cc))

-- a chunk whose keys are others
chunk_gives_none : (size p q : ℕ) (own : List ℕ) → q ≢ p → q ≢ size + p
    → given q (map (chunk_gives size p own) (numbers_below 2)) ≡ 0
chunk_gives_none size p q own other past = grind (arith, past, given, other_part)

-- a buffer whose keys are others
buffer_gives_none : (size p q : ℕ) (own : List ℕ) → q ≢ p → q ≢ size + p
    → given q (map (buffer_gives size p own) (numbers_below 1)) ≡ 0
buffer_gives_none size p q own other past = grind (arith, past, given, other_part)

module _ (h : Header) (words : List ℕ) (q w was : ℕ) where
  -- what pairs of all parts give is what is shown
  shown_by : (subject : Subject) (pairs : List ℕ → List (ℕ × ℕ)) → h.subject ≡ subject
      → ((all : List ℕ) → collected (pairs all) ≡ collected (parts_of subject h.size all))
      → (all : List ℕ) → amount_shown (rules_of h) all q ≡ given q (pairs all)
  unfolding view_of_words
  shown_by subject pairs is show all = search (collected, parts_of, amount_of-collected, arith)

  -- a word of a chunk whose keys are others
  pub chunk_passed : (before : ℕ) → h.subject ≡ Cache → length words ≡ plain_words h
      → before ≡ amount_shown (rules_of h) (set words w was) q
      → (q == w / 5 || q == h.size + w / 5) ≡ false
      → before ≡ amount_shown (rules_of h) words q
  chunk_passed before is count shown apart =
      let all = count ∙ ap (λ s. plain_words_of s h.size) is in
      let pairs : List ℕ → List (ℕ × ℕ) = pairs_by 5 2 h.size (chunk_gives _) in
      let show = shown_by Cache pairs is (chunks_show _) in
      let both = neither_true (q == w / 5) (q == h.size + w / 5) apart in
      shown ∙ show _ ∙ passed 5 2 h.size (chunk_gives _) words q w was (omega (arith, all))
      (λ own. chunk_gives_none h.size _ q own (apart_of q _ both.0) (apart_of q _ both.1))
      ∙ sym (show _)

  -- and one of a buffer
  pub buffer_passed : (before : ℕ) → h.subject ≡ Buffers → length words ≡ plain_words h
      → before ≡ amount_shown (rules_of h) (set words w was) q
      → (q == w / 8 || q == h.size + w / 8) ≡ false
      → before ≡ amount_shown (rules_of h) words q
  buffer_passed before is count shown apart =
      let all = count ∙ ap (λ s. plain_words_of s h.size) is in
      let pairs : List ℕ → List (ℕ × ℕ) = pairs_by 8 1 h.size (buffer_gives _) in
      let show = shown_by Buffers pairs is (buffers_show _) in
      let both = neither_true (q == w / 8) (q == h.size + w / 8) apart in
      shown ∙ show _ ∙ passed 8 1 h.size (buffer_gives _) words q w was (omega (arith, all))
      (λ own. buffer_gives_none h.size (w / 8) q own (apart_of q _ both.0) (apart_of q _ both.1))
      ∙ sym (show _)
