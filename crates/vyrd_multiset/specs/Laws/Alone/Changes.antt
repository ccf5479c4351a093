-- Proofs of laws that an impl in src/ names: no contract says what is defined here.
-- How the state changes that a memory of a multiset represents, where one slot changes.
use Rattle.std.proofs.Common.{◌≡◌, ◌≢◌, ℕ, zero, suc, ◌+◌, ◌-◌, ◌*◌, ◌%◌, ◌/◌, ◌<◌, ◌≤◌, Bool, true}
use Rattle.std.proofs.Common.{false, cond, not, List, [], ◌∷◌, Some, refl, ap, ◌∙◌, sym, subst}
use Rattle.std.proofs.Common.{arith}
use Rattle.std.specs.Prelude.{◌==◌, ◌||◌, flat_map, slice_index}
use Rattle.std.proofs.lemmas.Bool.Decides.{nat_tests}
use Rattle.vyrd_base.specs.declared.header.Header.{Header}
use Rattle.vyrd_base.specs.declared.subject.Subject.TheVariants.{Multiset}
use Rattle.vyrd_base.specs.Places.{numbers_below, numbers_from}
use Rattle.vyrd_base.specs.Layout.{plain_words, lock_words, plain_words_of, lock_words_of}
use Rattle.vyrd_base.specs.Amounts.{Amounts, IsAmounts, amount_of, with_amount, plus_amount}
use Rattle.vyrd_base.specs.Amounts.{collected, given, part_given}
use Rattle.vyrd_base.specs.Multiset.{slot_parts}
use Rattle.vyrd_base.specs.Views.{parts_of, view_of_words}
use Rattle.vyrd_base.specs.Multiset.{is_sound_slot}
use Rattle.vyrd_base.specs.Represented.{is_sound}
use Rattle.vyrd_base.proofs.AmountLaws.{amount_of-with_amount, IsAmounts-with_amount}
use Rattle.vyrd_base.proofs.SumLaws.{given-append, amount_of-collected, amount_of-plus}
use Rattle.vyrd_base.proofs.SumLaws.{IsAmounts-collected, given_nothing}
use Rattle.vyrd_base.proofs.TestLaws.{same_of, same_number, isnt_same}
use Rattle.vyrd_base.proofs.PlaceLaws.{pass_all}
use Rattle.vyrd_memory.specs.Alone.{Memory, words_in, state_in}
use Rattle.vyrd_memory.proofs.NumberLists.{all_pass, flat_map_alike}
use Rattle.vyrd_memory.proofs.PartSums.{given-changed, collected-is}
use Rattle.vyrd_memory.proofs.Memories.{Represents, word_at, represents, represented}
use Rattle.vyrd_multiset.specs.Cells.{bucket_of}
use Rattle.vyrd_multiset.specs.Contents.{parts_in, IsMultiset}

cells_are : (h : Header) → h.subject ≡ Multiset → plain_words h + lock_words h ≡ 9 * h.size
cells_are h is = ap (λ s. plain_words_of s h.size + lock_words_of s h.size) is ∙ nine h.size
  where
    nine : (n : ℕ) → 8 * n + n ≡ 9 * n
    nine n = omega arith

word_is : (h : Header) (memory : Memory) → h.subject ≡ Multiset → (cell : ℕ) → cell < 9 * h.size
    → slice_index (words_in h memory) cell ≡ memory cell
word_is h memory is cell low =
    word_at h memory cell (subst (λ n. cell < n) (sym (cells_are h is)) low)

parts_are : (h : Header) (memory : Memory) → h.subject ≡ Multiset
    → flat_map (slot_parts (words_in h memory)) (numbers_below (4 * h.size))
    ≡ flat_map (parts_in memory) (numbers_below (4 * h.size))
parts_are h memory is =
    flat_map_alike (slot_parts (words_in h memory)) (parts_in memory) 0 (4 * h.size) each
  where
    each : (i : ℕ) → 0 ≤ i → i < 0 + 4 * h.size
        → slot_parts (words_in h memory) i ≡ parts_in memory i
    each i from to =
        ap (λ a. cond (a == 2) ((slice_index (words_in h memory) (2 * i + 1), 1) ∷ []) [])
        (word_is h memory is (2 * i) (omega arith))
        ∙ ap (λ v. cond (memory (2 * i) == 2) ((v, 1) ∷ []) [])
        (word_is h memory is (2 * i + 1) (omega arith))

slot_says : (a v n k : ℕ) → (not (a == 2) || v % n == k) ≡ true → a ≡ 2 → v % n ≡ k
slot_says a v n k e valid = of_remainder (v % n) e
  where
    of_remainder : (r : ℕ) → (not (a == 2) || r == k) ≡ true → r ≡ k
    of_remainder r e = grind (arith, nat_tests)

slot_passes : (a v n k : ℕ) → (a ≡ 2 → v % n ≡ k) → (not (a == 2) || v % n == k) ≡ true
slot_passes a v n k says = of_remainder (v % n) says
  where
    of_remainder : (r : ℕ) → (a ≡ 2 → r ≡ k) → (not (a == 2) || r == k) ≡ true
    of_remainder r says = by_test (a == 2) refl
      where
        by_test : (b : Bool) → (a == 2) ≡ b → (not b || r == k) ≡ true
        by_test true e = let valid : a ≡ 2 = grind (arith, nat_tests) in
            let same = says valid in grind (arith, nat_tests)
        by_test false e = refl

-- the parts of words that represent a state
shown_parts : (h : Header) (memory : Memory) → h.subject ≡ Multiset
    → view_of_words h (words_in h memory)
    ≡ collected (flat_map (parts_in memory) (numbers_below (4 * h.size)))
unfolding view_of_words
shown_parts h memory is = ap (λ s. collected (parts_of s h.size (words_in h memory))) is
    ∙ ap collected (parts_are h memory is)

-- a memory that represents a state is so
pub is_multiset : (h : Header) (memory : Memory) (state : Amounts) → h.subject ≡ Multiset
    → state_in h memory ≡ Some state
    → IsMultiset h memory state
is_multiset h memory state is e = record {
  sound = λ i low valid. slot_says (memory (2 * i)) (memory (2 * i + 1)) h.size (i / 4) (slot i low)
      valid;
  free = λ b low. here.free (8 * h.size + b) (omega (arith, plain))
      (subst (λ n. 8 * h.size + b < n) (sym (cells_are h is)) (omega (arith, low)));
  shows = λ q. sym (amount_of-collected (flat_map (parts_in memory) (numbers_below (4 * h.size))) q)
      ∙ ap (λ s. amount_of s q) shown;
  formed = subst IsAmounts shown
      (IsAmounts-collected (flat_map (parts_in memory) (numbers_below (4 * h.size))));
}
  where
    here : Represents h memory state
    here = represents h memory state e

    plain : plain_words h ≡ 8 * h.size
    plain = ap (λ s. plain_words_of s h.size) is

    shown : collected (flat_map (parts_in memory) (numbers_below (4 * h.size))) ≡ state
    shown = sym (shown_parts h memory is) ∙ here.shows

    slot : (i : ℕ) → i < 4 * h.size
        → (not (memory (2 * i) == 2) || memory (2 * i + 1) % h.size == i / 4) ≡ true
    slot i low =
        ap (λ v. not (memory (2 * i) == 2) || v % h.size == i / 4)
        (sym (word_is h memory is (2 * i + 1) (omega arith)))
        ∙ ap (λ a. not (a == 2) || slice_index (words_in h memory) (2 * i + 1) % h.size == i / 4)
        (sym (word_is h memory is (2 * i) (omega arith)))
        ∙ all_pass (is_sound_slot h.size (words_in h memory)) 0 (4 * h.size)
        (ap (λ s. is_sound s h.size (words_in h memory)) (sym is) ∙ here.sound) i
        (omega arith) (omega arith)

-- a memory that is so represents the state
pub multiset_represented : (h : Header) (memory : Memory) (state : Amounts) → h.subject ≡ Multiset
    → IsMultiset h memory state
    → state_in h memory ≡ Some state
multiset_represented h memory state is m = represented h memory state (record {
  sound = ap (λ s. is_sound s h.size (words_in h memory)) is
      ∙ pass_all (is_sound_slot h.size (words_in h memory)) 0 (4 * h.size) slot;
  free = free;
  shows = shown_parts h memory is ∙ collected-is
      (flat_map (parts_in memory) (numbers_below (4 * h.size))) state m.formed m.shows;
})
  where
    plain : plain_words h ≡ 8 * h.size
    plain = ap (λ s. plain_words_of s h.size) is

    slot : (i : ℕ) → 0 ≤ i → i < 0 + 4 * h.size → is_sound_slot h.size (words_in h memory) i ≡ true
    slot i from to =
        ap (λ a. not (a == 2) || slice_index (words_in h memory) (2 * i + 1) % h.size == i / 4)
        (word_is h memory is (2 * i) (omega arith))
        ∙ ap (λ v. not (memory (2 * i) == 2) || v % h.size == i / 4)
        (word_is h memory is (2 * i + 1) (omega arith))
        ∙ slot_passes (memory (2 * i)) (memory (2 * i + 1)) h.size (i / 4) (m.sound i (omega arith))

    free : (lock : ℕ) → plain_words h ≤ lock → lock < plain_words h + lock_words h → memory lock ≡ 0
    free lock from to =
        let low : lock < 9 * h.size = subst (λ n. lock < n) (cells_are h is) to in
        let e : lock ≡ 8 * h.size + (lock - 8 * h.size) = omega (arith, plain) in
        ap memory e ∙ m.free (lock - 8 * h.size) (omega (arith, plain))

-- One slot changes, and no other cell. The state is then another one, if it gives each key as much
-- more as the slot does.
pub changed : (h : Header) (before after : Memory) (s t : Amounts) (i : ℕ) → IsMultiset h before s
    → i < 4 * h.size → ((cell : ℕ) → cell ≢ 2 * i → cell ≢ 2 * i + 1 → after cell ≡ before cell)
    → (after (2 * i) ≡ 2 → after (2 * i + 1) % h.size ≡ i / 4) → IsAmounts t
    → ((q : ℕ)
    → amount_of t q + given q (parts_in before i) ≡ amount_of s q + given q (parts_in after i))
    → IsMultiset h after t
changed h before after s t i m low others sound formed amounts = record {
  sound = λ j fits valid. by_place j fits valid (j == i) refl;
  free = λ b fits. others (8 * h.size + b) (omega arith) (omega arith) ∙ m.free b fits;
  shows = λ q. omega (
    arith,
    given-changed (parts_in before) (parts_in after) q 0 (4 * h.size) i (omega arith) (omega arith)
        same,
    m.shows q,
    amounts q,
  );
  formed = formed;
}
  where
    by_place : (j : ℕ) → j < 4 * h.size → after (2 * j) ≡ 2 → (b : Bool) → (j == i) ≡ b
        → after (2 * j + 1) % h.size ≡ j / 4
    by_place j fits valid true e =
        let at : j ≡ i = grind (arith, nat_tests) in
        subst (λ k. after (2 * k + 1) % h.size ≡ k / 4) (sym at)
        (sound (subst (λ k. after (2 * k) ≡ 2) at valid))
    by_place j fits valid false e =
        let apart : j ≢ i = grind (arith, nat_tests) in
        ap (λ v. v % h.size) (others (2 * j + 1) (omega (arith, apart)) (omega (arith, apart)))
        ∙ m.sound j fits
        (sym (others (2 * j) (omega (arith, apart)) (omega (arith, apart))) ∙ valid)

    same : (j : ℕ) → 0 ≤ j → j < 0 + 4 * h.size → j ≢ i → parts_in before j ≡ parts_in after j
    same j from to apart =
        ap (λ a. cond (a == 2) ((before (2 * j + 1), 1) ∷ []) [])
        (sym (others (2 * j) (omega (arith, apart)) (omega (arith, apart))))
        ∙ ap (λ v. cond (after (2 * j) == 2) ((v, 1) ∷ []) [])
        (sym (others (2 * j + 1) (omega (arith, apart)) (omega (arith, apart))))

gives_nothing : (memory : Memory) (i q : ℕ) → memory (2 * i) ≢ 2 → given q (parts_in memory i) ≡ 0
gives_nothing memory i q invalid =
    let e : (memory (2 * i) == 2) ≡ false = isnt_same (memory (2 * i)) 2 invalid in
    ap (λ b. given q (cond b ((memory (2 * i + 1), 1) ∷ []) [])) e

gives_one : (memory : Memory) (i q x : ℕ) → memory (2 * i) ≡ 2 → memory (2 * i + 1) ≡ x
    → given q (parts_in memory i) ≡ part_given q (x, 1)
gives_one memory i q x valid has =
    ap (λ a. given q (cond (a == 2) ((memory (2 * i + 1), 1) ∷ []) [])) valid
    ∙ ap (λ v. given q ((v, 1) ∷ [])) has ∙ more (part_given q (x, 1))
  where
    more : (n : ℕ) → n + 0 ≡ n
    more n = omega arith

-- a slot that isn't valid becomes valid
pub made_valid : (h : Header) (before after : Memory) (s : Amounts) (i x : ℕ)
    → IsMultiset h before s → i < 4 * h.size
    → ((cell : ℕ) → cell ≢ 2 * i → cell ≢ 2 * i + 1 → after cell ≡ before cell) → before (2 * i) ≢ 2
    → after (2 * i) ≡ 2 → after (2 * i + 1) ≡ x → i / 4 ≡ bucket_of h x
    → IsMultiset h after (plus_amount s x 1)
made_valid h before after s i x m low others invalid valid has of =
    changed h before after s (plus_amount s x 1) i m low others
    (λ v. ap (λ n. n % h.size) has ∙ sym of)
    (IsAmounts-with_amount s x (amount_of s x + 1) m.formed)
    (λ q. omega (
      arith,
      gives_nothing before i q invalid,
      gives_one after i q x valid has,
      amount_of-plus s x 1 q,
    ))

-- a slot that isn't valid stays so
pub left_invalid : (h : Header) (before after : Memory) (s : Amounts) (i : ℕ)
    → IsMultiset h before s → i < 4 * h.size
    → ((cell : ℕ) → cell ≢ 2 * i → cell ≢ 2 * i + 1 → after cell ≡ before cell) → before (2 * i) ≢ 2
    → after (2 * i) ≢ 2 → IsMultiset h after s
left_invalid h before after s i m low others invalid invalid' =
    changed h before after s s i m low others (λ v. absurd (invalid' v)) m.formed
    (λ q. omega (arith, gives_nothing before i q invalid, gives_nothing after i q invalid'))

-- numbers in a row give at least what one of them gives
given_at_least : (f : ℕ → List (ℕ × ℕ)) (q k n i : ℕ) → k ≤ i → i < k + n
    → given q (f i) ≤ given q (flat_map f (numbers_from k n))
given_at_least f q k zero i from to = absurd (omega (arith, from, to))
given_at_least f q k (suc n) i from to =
    by_place (k == i) refl
    (λ apart. given_at_least f q (k + 1) n i (omega (arith, apart, from)) (omega (arith, to)))
  where
    by_place : (b : Bool) → (k == i) ≡ b
        → (k ≢ i → given q (f i) ≤ given q (flat_map f (numbers_from (k + 1) n)))
        → given q (f i) ≤ given q (flat_map f (numbers_from k (suc n)))
    by_place true e later = omega (
      arith,
      given-append q (f k) (flat_map f (numbers_from (k + 1) n)),
      ap (λ j. given q (f j)) (same_of k i e),
    )
    by_place false e later =
        let apart : k ≢ i = grind (arith, nat_tests) in
        omega (arith, given-append q (f k) (flat_map f (numbers_from (k + 1) n)), later apart)

-- a valid slot has a value that is there
pub is_there : (h : Header) (memory : Memory) (s : Amounts) (i x : ℕ) → IsMultiset h memory s
    → i < 4 * h.size → memory (2 * i) ≡ 2 → memory (2 * i + 1) ≡ x → 1 ≤ amount_of s x
is_there h memory s i x m low valid has =
    let one : given x (parts_in memory i) ≡ 1 =
    gives_one memory i x x valid has ∙ ap (λ b. cond b 1 0) (same_number x) in
    omega (
      arith,
      given_at_least (parts_in memory) x 0 (4 * h.size) i (omega arith) (omega (arith, low)),
      one,
      m.shows x,
    )

-- a valid slot is freed
pub made_free : (h : Header) (before after : Memory) (s : Amounts) (i x : ℕ) → IsMultiset h before s
    → i < 4 * h.size → ((cell : ℕ) → cell ≢ 2 * i → cell ≢ 2 * i + 1 → after cell ≡ before cell)
    → before (2 * i) ≡ 2 → before (2 * i + 1) ≡ x → after (2 * i) ≢ 2
    → IsMultiset h after (with_amount s x (amount_of s x - 1))
made_free h before after s i x m low others valid has invalid =
    changed h before after s (with_amount s x (amount_of s x - 1)) i m low others
    (λ v. absurd (invalid v))
    (IsAmounts-with_amount s x (amount_of s x - 1) m.formed)
    (λ q. one_less q (q == x) refl)
  where
    some : 1 ≤ amount_of s x
    some = is_there h before s i x m low valid has

    one_less : (q : ℕ) (b : Bool) → (q == x) ≡ b
        → amount_of (with_amount s x (amount_of s x - 1)) q + given q (parts_in before i)
        ≡ amount_of s q + given q (parts_in after i)
    one_less q true e =
        let now : amount_of (with_amount s x (amount_of s x - 1)) q ≡ amount_of s x - 1 =
        amount_of-with_amount s x (amount_of s x - 1) q
        ∙ ap (λ b. cond b (amount_of s x - 1) (amount_of s q)) e in
        let one : given q (parts_in before i) ≡ 1 =
        gives_one before i q x valid has ∙ ap (λ b. cond b 1 0) e in
        omega
        (arith, now, one, gives_nothing after i q invalid, ap (amount_of s) (same_of q x e), some)
    one_less q false e =
        let now : amount_of (with_amount s x (amount_of s x - 1)) q ≡ amount_of s q =
        amount_of-with_amount s x (amount_of s x - 1) q
        ∙ ap (λ b. cond b (amount_of s x - 1) (amount_of s q)) e in
        let none : given q (parts_in before i) ≡ 0 =
        gives_one before i q x valid has ∙ ap (λ b. cond b 1 0) e in
        omega (arith, now, none, gives_nothing after i q invalid)

in_bucket : (j b : ℕ) → j / 4 ≡ b → (4 * b ≤ j) × (j < 4 * b + 4)
in_bucket j b e = (omega arith, omega arith)

-- a value that no slot of its bucket has isn't there
pub isnt_there : (h : Header) (memory : Memory) (s : Amounts) (x : ℕ) → IsMultiset h memory s
    → ((j : ℕ) → 4 * bucket_of h x ≤ j → j < 4 * bucket_of h x + 4 → memory (2 * j) ≡ 2
    → memory (2 * j + 1) ≡ x → ⊥)
    → amount_of s x ≡ 0
isnt_there h memory s x m none = sym (m.shows x) ∙ given_nothing (parts_in memory) x 0 (4 * h.size)
    (λ j from to. by_state j (omega (arith, to)) (memory (2 * j) == 2) refl)
  where
    by_value : (j : ℕ) → j < 4 * h.size → memory (2 * j) ≡ 2 → (b : Bool)
        → (x == memory (2 * j + 1)) ≡ b → cond b 1 0 + 0 ≡ 0
    by_value j low valid true e =
        let has : x ≡ memory (2 * j + 1) = same_of x (memory (2 * j + 1)) e in
        let of : j / 4 ≡ bucket_of h x =
        sym (m.sound j low valid) ∙ ap (λ v. v % h.size) (sym has) in
        let within = in_bucket j (bucket_of h x) of in
        absurd (none j within.0 within.1 valid (sym has))
    by_value j low valid false e = refl

    by_state : (j : ℕ) → j < 4 * h.size → (b : Bool) → (memory (2 * j) == 2) ≡ b
        → given x (parts_in memory j) ≡ 0
    by_state j low true e =
        ap (λ b. given x (cond b ((memory (2 * j + 1), 1) ∷ []) [])) e
        ∙ by_value j low (same_of (memory (2 * j)) 2 e) (x == memory (2 * j + 1)) refl
    by_state j low false e = ap (λ b. given x (cond b ((memory (2 * j + 1), 1) ∷ []) [])) e
