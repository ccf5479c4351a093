-- Proofs of laws that an impl in src/ names: no contract says what is defined here.
-- How the state changes that a cache's memory represents, where one chunk changes.
use Rattle.std.proofs.Common.{◌≡◌, ℕ, ◌+◌, ◌*◌, ◌<◌, ◌≤◌, Bool, true, false, cond, List, [], ◌∷◌}
use Rattle.std.proofs.Common.{refl, ap, ◌∙◌, sym, subst, arith}
use Rattle.std.specs.Prelude.{◌≢◌, ◌==◌, ◌&&◌, ◌||◌, not, flat_map}
use Rattle.vyrd_base.specs.declared.header.Header.{Header}
use Rattle.vyrd_base.specs.declared.subject.Subject.TheVariants.{Cache}
use Rattle.vyrd_base.specs.Places.{numbers_from, numbers_below}
use Rattle.vyrd_base.specs.Layout.{plain_words, lock_words, plain_words_of, lock_words_of}
use Rattle.vyrd_base.specs.Amounts.{Amounts, amount_of, with_amount, collected, given}
use Rattle.vyrd_base.specs.Cache.{Chunk, chunk_at, is_chunk, cached_pair, stored_pair, chunk_parts}
use Rattle.vyrd_base.specs.Views.{parts_of, view_of_words}
use Rattle.vyrd_base.specs.Represented.{is_sound}
use Rattle.vyrd_base.specs.Cache.{is_sound_chunk}
use Rattle.vyrd_base.proofs.AmountLaws.{amount_of-with_amount, IsAmounts-with_amount, same_amount}
use Rattle.vyrd_base.proofs.SumLaws.{given_nothing, amount_of-collected}
use Rattle.vyrd_base.proofs.TestLaws.{first_true, second_true, same_number, isnt_same, same_of}
use Rattle.vyrd_base.proofs.TestLaws.{apart_of}
use Rattle.vyrd_base.proofs.PlaceLaws.{pass_all}
use Rattle.vyrd_memory.specs.Alone.{Memory, words_in}
use Rattle.vyrd_memory.proofs.NumberLists.{all_pass}
use Rattle.vyrd_memory.proofs.PartSums.{given-changed, collected-is}
use Rattle.vyrd_memory.proofs.Memories.{Represents, word_at, is_amounts}
use Rattle.vyrd_cache.specs.Contents.{chunk_of, shown}

-- two chunks with the same words
pub same_chunk : (c d : Chunk) → c.state ≡ d.state → c.cached_lo ≡ d.cached_lo
    → c.cached_hi ≡ d.cached_hi → c.stored_lo ≡ d.stored_lo → c.stored_hi ≡ d.stored_hi → c ≡ d
same_chunk c d e0 e1 e2 e3 e4 = λ i.
    record { state = e0 i; cached_lo = e1 i; cached_hi = e2 i; stored_lo = e3 i; stored_hi = e4 i }

many_cells : (h : Header) → h.subject ≡ Cache → plain_words h + lock_words h ≡ 5 * h.size + h.size
many_cells h is = ap (λ s. plain_words_of s h.size + lock_words_of s h.size) is

pub chunk_in : (h : Header) (memory : Memory) (k : ℕ) → h.subject ≡ Cache → k < h.size
    → chunk_at (words_in h memory) k ≡ chunk_of memory k
chunk_in h memory k is low =
    let many = many_cells h is in
    same_chunk (chunk_at (words_in h memory) k) (chunk_of memory k)
    (word_at h memory (5 * k) (omega arith))
    (word_at h memory (5 * k + 1) (omega arith))
    (word_at h memory (5 * k + 2) (omega arith))
    (word_at h memory (5 * k + 3) (omega arith))
    (word_at h memory (5 * k + 4) (omega arith))

-- each chunk is sound
pub sound_at : (h : Header) (memory : Memory) (state : Amounts) (k : ℕ) → h.subject ≡ Cache
    → Represents h memory state → k < h.size
    → is_sound_chunk (chunk_of memory k) ≡ true
sound_at h memory state k is s low =
    ap is_sound_chunk (sym (chunk_in h memory k is low))
    ∙ all_pass (λ j. is_sound_chunk (chunk_at (words_in h memory) j)) 0 h.size all k (omega arith)
    (omega arith)
  where
    all : is_sound Cache h.size (words_in h memory) ≡ true
    all = subst (λ subject. is_sound subject h.size (words_in h memory) ≡ true) is s.sound

unharmed : (a b : Bool) → (not a || b) ≡ true → (a && not b) ≡ false
unharmed true true e = refl
unharmed true false e = cc
unharmed false b e = refl

-- a sound chunk gives the pair that it shows, and no damage
parts_sound : (size k : ℕ) (c : Chunk) → is_sound_chunk c ≡ true
    → chunk_parts size k c ≡ (k, shown c) ∷ []
parts_sound size k c sound =
    let formed : is_chunk c ≡ true =
    first_true (is_chunk c) (not (c.state == 1) || cached_pair c == stored_pair c) sound in
    let whole : (c.state == 1 && not (cached_pair c == stored_pair c)) ≡ false =
    unharmed (c.state == 1) (cached_pair c == stored_pair c)
    (second_true (is_chunk c) (not (c.state == 1) || cached_pair c == stored_pair c) sound) in
    rw (formed, whole)

-- what chunk j gives
abbrev part_at : Header → Memory → ℕ → List (ℕ × ℕ)
part_at h memory j = chunk_parts h.size j (chunk_at (words_in h memory) j)

given_at : (h : Header) (memory : Memory) (q j : ℕ) → h.subject ≡ Cache → j < h.size
    → is_sound_chunk (chunk_of memory j) ≡ true
    → given q (part_at h memory j) ≡ cond (q == j) (shown (chunk_of memory j)) 0
given_at h memory q j is low sound =
    let one : given q ((j, shown (chunk_of memory j)) ∷ [])
    ≡ cond (q == j) (shown (chunk_of memory j)) 0 =
    omega arith in
    ap (λ c. given q (chunk_parts h.size j c)) (chunk_in h memory j is low)
    ∙ ap (given q) (parts_sound h.size j (chunk_of memory j) sound) ∙ one

-- the amount of a key is what all chunks give it
amounts_given : (h : Header) (memory : Memory) (state : Amounts) (q : ℕ) → h.subject ≡ Cache
    → Represents h memory state
    → amount_of state q ≡ given q (flat_map (part_at h memory) (numbers_below h.size))
unfolding view_of_words
amounts_given h memory state q is s =
    ap (λ t. amount_of t q) (sym s.shows)
    ∙ amount_of-collected (parts_of h.subject h.size (words_in h memory)) q
    ∙ ap (λ subject. given q (parts_of subject h.size (words_in h memory))) is

-- what the other chunks give
abbrev parts_without : Header → Memory → ℕ → ℕ → List (ℕ × ℕ)
parts_without h memory k j = cond (j == k) [] (part_at h memory j)

-- which is nothing to the key k
none_without : (h : Header) (memory : Memory) (state : Amounts) (k : ℕ) → h.subject ≡ Cache
    → Represents h memory state
    → given k (flat_map (parts_without h memory k) (numbers_from 0 h.size)) ≡ 0
none_without h memory state k is s = given_nothing (parts_without h memory k) k 0 h.size
    (λ j from to. by_place j (omega arith) (j == k) refl)
  where
    by_place : (j : ℕ) → j < h.size → (b : Bool) → (j == k) ≡ b
        → given k (parts_without h memory k j) ≡ 0
    by_place j below true e = ap (λ b. given k (cond b [] (part_at h memory j))) e
    by_place j below false e =
        let apart : k ≢ j = λ same. apart_of j k e (sym same) in
        ap (λ b. given k (cond b [] (part_at h memory j))) e
        ∙ given_at h memory k j is below (sound_at h memory state j is s below)
        ∙ ap (λ b. cond b (shown (chunk_of memory j)) 0) (isnt_same k j apart)

-- the amount of a chunk's number is the pair that it shows
pub shown_at : (h : Header) (memory : Memory) (state : Amounts) (k : ℕ) → h.subject ≡ Cache
    → Represents h memory state → k < h.size
    → amount_of state k ≡ shown (chunk_of memory k)
shown_at h memory state k is s low =
    omega (
      arith,
      amounts_given h memory state k is s,
      given-changed (part_at h memory) (parts_without h memory k) k 0 h.size k (omega arith)
          (omega arith)
          (λ j from to apart. sym (ap (λ b. cond b [] (part_at h memory j)) (isnt_same j k apart))),
      here,
      none,
      none_without h memory state k is s,
    )
  where
    here : given k (part_at h memory k) ≡ shown (chunk_of memory k)
    here = given_at h memory k k is low (sound_at h memory state k is s low)
        ∙ ap (λ b. cond b (shown (chunk_of memory k)) 0) (same_number k)

    none : given k (parts_without h memory k k) ≡ 0
    none = ap (λ b. given k (cond b [] (part_at h memory k))) (same_number k)

-- nothing changes but the cells of chunk k and this lock
abbrev pub Leaves : Memory → Memory → ℕ → ℕ → Type 0
Leaves old new k lock = (cell : ℕ) → cell ≢ 5 * k → cell ≢ 5 * k + 1 → cell ≢ 5 * k + 2
    → cell ≢ 5 * k + 3 → cell ≢ 5 * k + 4 → cell ≢ lock → new cell ≡ old cell

other_chunk : (size : ℕ) (old new : Memory) (k j : ℕ) → Leaves old new k (5 * size + k) → k < size
    → j < size → j ≢ k
    → chunk_of new j ≡ chunk_of old j
other_chunk size old new k j leaves low below apart =
    same_chunk (chunk_of new j) (chunk_of old j)
    (leaves (5 * j) (omega arith) (omega arith) (omega arith) (omega arith) (omega arith)
    (omega arith))
    (leaves (5 * j + 1) (omega arith) (omega arith) (omega arith) (omega arith) (omega arith)
    (omega arith))
    (leaves (5 * j + 2) (omega arith) (omega arith) (omega arith) (omega arith) (omega arith)
    (omega arith))
    (leaves (5 * j + 3) (omega arith) (omega arith) (omega arith) (omega arith) (omega arith)
    (omega arith))
    (leaves (5 * j + 4) (omega arith) (omega arith) (omega arith) (omega arith) (omega arith)
    (omega arith))

-- what the chunks give if chunk k alone changed
amounts_changed : (h : Header) (old new : Memory) (state : Amounts) (k q : ℕ) → h.subject ≡ Cache
    → Represents h old state → k < h.size → Leaves old new k (5 * h.size + k)
    → is_sound_chunk (chunk_of new k) ≡ true
    → given q (flat_map (part_at h new) (numbers_below h.size))
    ≡ cond (q == k) (shown (chunk_of new k)) (amount_of state q)
amounts_changed h old new state k q is s low leaves sound = by_key (q == k) refl
  where
    same_parts : (j : ℕ) → 0 ≤ j → j < 0 + h.size → j ≢ k → part_at h old j ≡ part_at h new j
    same_parts j from to apart =
        let below : j < h.size = omega arith in
        ap (chunk_parts h.size j) (chunk_in h old j is below
        ∙ sym (other_chunk h.size old new k j leaves low below apart)
        ∙ sym (chunk_in h new j is below))

    change : given q (flat_map (part_at h new) (numbers_from 0 h.size)) + given q (part_at h old k)
        ≡ given q (flat_map (part_at h old) (numbers_from 0 h.size)) + given q (part_at h new k)
    change = given-changed (part_at h old) (part_at h new) q 0 h.size k (omega arith) (omega arith)
        same_parts

    by_key : (b : Bool) → (q == k) ≡ b
        → given q (flat_map (part_at h new) (numbers_below h.size))
        ≡ cond (q == k) (shown (chunk_of new k)) (amount_of state q)
    by_key true e =
        let before : given q (part_at h old k) ≡ shown (chunk_of old k) =
        given_at h old q k is low (sound_at h old state k is s low)
        ∙ ap (λ b. cond b (shown (chunk_of old k)) 0) e in
        let after : given q (part_at h new k) ≡ shown (chunk_of new k) =
        given_at h new q k is low sound
        ∙ ap (λ b. cond b (shown (chunk_of new k)) 0) e in
        let all : given q (flat_map (part_at h old) (numbers_from 0 h.size))
        ≡ shown (chunk_of old k) =
        sym (amounts_given h old state q is s) ∙ ap (amount_of state) (same_of q k e)
        ∙ shown_at h old state k is s low in
        let now : given q (flat_map (part_at h new) (numbers_from 0 h.size))
        ≡ shown (chunk_of new k) =
        omega (arith, change, before, after, all) in
        now ∙ sym (ap (λ b. cond b (shown (chunk_of new k)) (amount_of state q)) e)
    by_key false e =
        let before : given q (part_at h old k) ≡ 0 =
        given_at h old q k is low (sound_at h old state k is s low)
        ∙ ap (λ b. cond b (shown (chunk_of old k)) 0) e in
        let after : given q (part_at h new k) ≡ 0 =
        given_at h new q k is low sound ∙ ap (λ b. cond b (shown (chunk_of new k)) 0) e in
        let now : given q (flat_map (part_at h new) (numbers_from 0 h.size)) ≡ amount_of state q =
        omega (arith, change, before, after, amounts_given h old state q is s) in
        now ∙ sym (ap (λ b. cond b (shown (chunk_of new k)) (amount_of state q)) e)

-- The memory after chunk k changed to another sound chunk represents the state with the pair that
-- this one shows.
pub changed_chunk : (h : Header) (old new : Memory) (state : Amounts) (k : ℕ) → h.subject ≡ Cache
    → Represents h old state → k < h.size → Leaves old new k (5 * h.size + k)
    → new (5 * h.size + k) ≡ 0 → is_sound_chunk (chunk_of new k) ≡ true
    → Represents h new (with_amount state k (shown (chunk_of new k)))
unfolding view_of_words
changed_chunk h old new state k is s low leaves free sound = record {
  sound = subst (λ subject. is_sound subject h.size (words_in h new) ≡ true) (sym is) all_sound;
  free = λ lock from to. by_lock lock from to (lock == 5 * h.size + k) refl;
  shows = ap (λ subject. collected (parts_of subject h.size (words_in h new))) is
      ∙ collected-is (flat_map (part_at h new) (numbers_below h.size))
      (with_amount state k (shown (chunk_of new k)))
      (IsAmounts-with_amount state k (shown (chunk_of new k)) (is_amounts h old state s)) amounts;
}
  where
    each_sound : (j : ℕ) → j < h.size → is_sound_chunk (chunk_of new j) ≡ true
    each_sound j below = by_place (j == k) refl
      where
        by_place : (b : Bool) → (j == k) ≡ b → is_sound_chunk (chunk_of new j) ≡ true
        by_place true e = ap (λ i. is_sound_chunk (chunk_of new i)) (same_of j k e) ∙ sound
        by_place false e =
            ap is_sound_chunk (other_chunk h.size old new k j leaves low below (apart_of j k e))
            ∙ sound_at h old state j is s below

    all_sound : is_sound Cache h.size (words_in h new) ≡ true
    all_sound = pass_all (λ j. is_sound_chunk (chunk_at (words_in h new) j)) 0 h.size (λ j from to.
        let below : j < h.size = omega arith in ap is_sound_chunk (chunk_in h new j is below)
        ∙ each_sound j below)

    by_lock : (lock : ℕ) → plain_words h ≤ lock → lock < plain_words h + lock_words h → (b : Bool)
        → (lock == 5 * h.size + k) ≡ b → new lock ≡ 0
    by_lock lock from to true e = ap new (same_of lock (5 * h.size + k) e) ∙ free
    by_lock lock from to false e =
        let plain : plain_words h ≡ 5 * h.size = ap (λ s. plain_words_of s h.size) is in
        let apart = apart_of lock (5 * h.size + k) e in
        leaves lock (omega arith) (omega arith) (omega arith) (omega arith) (omega arith) apart
        ∙ s.free lock from to

    amounts : (q : ℕ)
        → given q (flat_map (part_at h new) (numbers_below h.size))
        ≡ amount_of (with_amount state k (shown (chunk_of new k))) q
    amounts q = amounts_changed h old new state k q is s low leaves sound
        ∙ sym (amount_of-with_amount state k (shown (chunk_of new k)) q)

-- If the chunk shows the same pair as before, the memory represents the same state.
pub kept_chunk : (h : Header) (old new : Memory) (state : Amounts) (k : ℕ) → h.subject ≡ Cache
    → Represents h old state → k < h.size → Leaves old new k (5 * h.size + k)
    → new (5 * h.size + k) ≡ 0 → is_sound_chunk (chunk_of new k) ≡ true
    → shown (chunk_of new k) ≡ shown (chunk_of old k) → Represents h new state
kept_chunk h old new state k is s low leaves free sound same =
    subst (Represents h new) (ap (with_amount state k)
    (same ∙ sym (shown_at h old state k is s low))
    ∙ same_amount state k (is_amounts h old state s))
    (changed_chunk h old new state k is s low leaves free sound)
