-- Proofs of laws that an impl in src/ names: no contract says what is defined here.
-- How the state changes that a memory of string buffers represents, where one buffer changes.
use Rattle.std.proofs.Common.{◌≡◌, ◌≢◌, ℕ, ◌+◌, ◌*◌, ◌/◌, ◌<◌, ◌≤◌, Bool, true, false, cond, List}
use Rattle.std.proofs.Common.{[], ◌∷◌, refl, ap, ◌∙◌, sym, subst, arith}
use Rattle.std.specs.Prelude.{◌==◌, ◌&&◌, nat_le, flat_map}
use Rattle.vyrd_base.specs.declared.header.Header.{Header}
use Rattle.vyrd_base.specs.declared.subject.Subject.TheVariants.{Buffers}
use Rattle.vyrd_base.specs.Places.{numbers_from, numbers_below}
use Rattle.vyrd_base.specs.Layout.{plain_words, lock_words, plain_words_of, lock_words_of}
use Rattle.vyrd_base.specs.Amounts.{Amounts, amount_of, with_amount, collected, given}
use Rattle.vyrd_base.specs.Views.{parts_of, view_of_words}
use Rattle.vyrd_base.specs.Represented.{is_sound}
use Rattle.vyrd_base.specs.Buffers.{Buffer, text_of, buffer_at, are_characters, is_buffer}
use Rattle.vyrd_base.specs.Buffers.{buffer_parts}
use Rattle.vyrd_base.proofs.AmountLaws.{amount_of-with_amount, IsAmounts-with_amount, same_amount}
use Rattle.vyrd_base.proofs.SumLaws.{given_nothing, amount_of-collected}
use Rattle.vyrd_base.proofs.TestLaws.{first_true, same_number, isnt_same, same_of, apart_of}
use Rattle.vyrd_base.proofs.TestLaws.{at_most_of}
use Rattle.vyrd_base.proofs.TextLaws.{text_same, characters_same}
use Rattle.vyrd_base.proofs.PlaceLaws.{pass_all}
use Rattle.vyrd_memory.specs.Alone.{Memory, words_in}
use Rattle.vyrd_memory.proofs.NumberLists.{all_pass}
use Rattle.vyrd_memory.proofs.PartSums.{given-changed, collected-is}
use Rattle.vyrd_memory.proofs.Memories.{Represents, word_at, is_amounts}
use Rattle.vyrd_buffers.specs.Contents.{buffer_of, shown}

-- two buffers with the same words
pub record Alike (a b : Buffer) : Type 0 where
  pub count : a.count ≡ b.count
  pub characters : (i : ℕ) → i < 7 → a.character i ≡ b.character i

-- the count of a sound buffer is at most 7
pub count_at_most : (buffer : Buffer) → is_buffer buffer ≡ true → buffer.count ≤ 7
count_at_most buffer sound = at_most_of buffer.count 7 (first_true (nat_le buffer.count 7) _ sound)

-- they are both sound or both not
pub sound_alike : (a b : Buffer) → Alike a b → is_buffer a ≡ is_buffer b
sound_alike a b same =
    ap (λ count. nat_le count 7 && are_characters a.character count) same.count
    ∙ by_count (nat_le b.count 7) refl
  where
    by_count : (few : Bool) → nat_le b.count 7 ≡ few
        → (nat_le b.count 7 && are_characters a.character b.count)
        ≡ (nat_le b.count 7 && are_characters b.character b.count)
    by_count true e =
        let most = at_most_of b.count 7 e in
        ap (λ t. nat_le b.count 7 && t)
        (characters_same a.character b.character b.count (λ i low. same.characters i (omega arith)))
    by_count false e =
        ap (λ few. few && are_characters a.character b.count) e
        ∙ sym (ap (λ few. few && are_characters b.character b.count) e)

-- and if they are sound, they show the same text
pub shown_alike : (a b : Buffer) → Alike a b → is_buffer b ≡ true → shown a ≡ shown b
shown_alike a b same sound =
    let most = count_at_most b sound in
    ap (text_of a.character) same.count
    ∙ text_same a.character b.character b.count (λ i low. same.characters i (omega arith))

many_cells : (h : Header) → h.subject ≡ Buffers → plain_words h + lock_words h ≡ 8 * h.size + h.size
many_cells h is = ap (λ s. plain_words_of s h.size + lock_words_of s h.size) is

-- a buffer of the words is that of the memory
pub buffer_in : (h : Header) (memory : Memory) (b : ℕ) → h.subject ≡ Buffers → b < h.size
    → Alike (buffer_at (words_in h memory) b) (buffer_of memory b)
buffer_in h memory b is low =
    let many = many_cells h is in
    record {
      count = word_at h memory (8 * b) (omega arith);
      characters = λ i few. word_at h memory (8 * b + (1 + i)) (omega arith);
    }

-- each buffer is sound
pub sound_at : (h : Header) (memory : Memory) (state : Amounts) (b : ℕ) → h.subject ≡ Buffers
    → Represents h memory state → b < h.size
    → is_buffer (buffer_of memory b) ≡ true
sound_at h memory state b is s low =
    sym (sound_alike (buffer_at (words_in h memory) b) (buffer_of memory b)
    (buffer_in h memory b is low))
    ∙ all_pass (λ j. is_buffer (buffer_at (words_in h memory) j)) 0 h.size all b (omega arith)
    (omega arith)
  where
    all : is_sound Buffers h.size (words_in h memory) ≡ true
    all = subst (λ subject. is_sound subject h.size (words_in h memory) ≡ true) is s.sound

-- what buffer j gives
abbrev part_at : Header → Memory → ℕ → List (ℕ × ℕ)
part_at h memory j = buffer_parts h.size j (buffer_at (words_in h memory) j)

-- a sound buffer gives the text that it shows, and no damage
part_is : (h : Header) (memory : Memory) (j : ℕ) → h.subject ≡ Buffers → j < h.size
    → is_buffer (buffer_of memory j) ≡ true
    → part_at h memory j ≡ (j, shown (buffer_of memory j)) ∷ []
part_is h memory j is low sound =
    let alike = buffer_in h memory j is low in
    let words : Buffer = buffer_at (words_in h memory) j in
    ap (λ b. cond b ((j, shown words) ∷ []) ((h.size + j, 1) ∷ []))
    (sound_alike words (buffer_of memory j) alike ∙ sound)
    ∙ ap (λ text. (j, text) ∷ []) (shown_alike words (buffer_of memory j) alike sound)

given_at : (h : Header) (memory : Memory) (q j : ℕ) → h.subject ≡ Buffers → j < h.size
    → is_buffer (buffer_of memory j) ≡ true
    → given q (part_at h memory j) ≡ cond (q == j) (shown (buffer_of memory j)) 0
given_at h memory q j is low sound =
    let one : given q ((j, shown (buffer_of memory j)) ∷ [])
    ≡ cond (q == j) (shown (buffer_of memory j)) 0 =
    omega arith in
    ap (given q) (part_is h memory j is low sound) ∙ one

-- the amount of a key is what all buffers give it
amounts_given : (h : Header) (memory : Memory) (state : Amounts) (q : ℕ) → h.subject ≡ Buffers
    → Represents h memory state
    → amount_of state q ≡ given q (flat_map (part_at h memory) (numbers_below h.size))
unfolding view_of_words
amounts_given h memory state q is s =
    ap (λ t. amount_of t q) (sym s.shows)
    ∙ amount_of-collected (parts_of h.subject h.size (words_in h memory)) q
    ∙ ap (λ subject. given q (parts_of subject h.size (words_in h memory))) is

-- what the other buffers give
abbrev parts_without : Header → Memory → ℕ → ℕ → List (ℕ × ℕ)
parts_without h memory b j = cond (j == b) [] (part_at h memory j)

-- which is nothing to the key b
none_without : (h : Header) (memory : Memory) (state : Amounts) (b : ℕ) → h.subject ≡ Buffers
    → Represents h memory state
    → given b (flat_map (parts_without h memory b) (numbers_from 0 h.size)) ≡ 0
none_without h memory state b is s = given_nothing (parts_without h memory b) b 0 h.size
    (λ j from to. by_place j (omega arith) (j == b) refl)
  where
    by_place : (j : ℕ) → j < h.size → (same : Bool) → (j == b) ≡ same
        → given b (parts_without h memory b j) ≡ 0
    by_place j below true e = ap (λ same. given b (cond same [] (part_at h memory j))) e
    by_place j below false e =
        let apart : b ≢ j = λ same. apart_of j b e (sym same) in
        ap (λ same. given b (cond same [] (part_at h memory j))) e
        ∙ given_at h memory b j is below (sound_at h memory state j is s below)
        ∙ ap (λ same. cond same (shown (buffer_of memory j)) 0) (isnt_same b j apart)

-- the amount of a buffer's number is the text that it shows
pub shown_at : (h : Header) (memory : Memory) (state : Amounts) (b : ℕ) → h.subject ≡ Buffers
    → Represents h memory state → b < h.size
    → amount_of state b ≡ shown (buffer_of memory b)
shown_at h memory state b is s low =
    omega (
      arith,
      amounts_given h memory state b is s,
      given-changed (part_at h memory) (parts_without h memory b) b 0 h.size b (omega arith)
          (omega arith)
          (λ j from to apart.
          sym (ap (λ same. cond same [] (part_at h memory j)) (isnt_same j b apart))),
      here,
      none,
      none_without h memory state b is s,
    )
  where
    here : given b (part_at h memory b) ≡ shown (buffer_of memory b)
    here =
        given_at h memory b b is low (sound_at h memory state b is s low)
        ∙ ap (λ same. cond same (shown (buffer_of memory b)) 0) (same_number b)

    none : given b (parts_without h memory b b) ≡ 0
    none = ap (λ same. given b (cond same [] (part_at h memory b))) (same_number b)

-- nothing changes but the words of buffer b
abbrev pub Leaves : Memory → Memory → ℕ → Type 0
Leaves old new b = (cell : ℕ) → cell / 8 ≢ b → new cell ≡ old cell

-- a lock is no word of a buffer
pub lock_apart : (size b lock : ℕ) → b < size → 8 * size ≤ lock → lock / 8 ≢ b
lock_apart size b lock low from = omega arith

pub other_buffer : (old new : Memory) (b j : ℕ) → Leaves old new b → j ≢ b
    → Alike (buffer_of new j) (buffer_of old j)
other_buffer old new b j leaves apart = record {
  count = leaves (8 * j) (omega arith);
  characters = λ i few. leaves (8 * j + (1 + i)) (omega arith);
}

-- what the buffers give if buffer b alone changed
amounts_changed : (h : Header) (old new : Memory) (state : Amounts) (b q : ℕ) → h.subject ≡ Buffers
    → Represents h old state → b < h.size → Leaves old new b → is_buffer (buffer_of new b) ≡ true
    → given q (flat_map (part_at h new) (numbers_below h.size))
    ≡ cond (q == b) (shown (buffer_of new b)) (amount_of state q)
amounts_changed h old new state b q is s low leaves sound = by_key (q == b) refl
  where
    same_parts : (j : ℕ) → 0 ≤ j → j < 0 + h.size → j ≢ b → part_at h old j ≡ part_at h new j
    same_parts j from to apart =
        let below : j < h.size = omega arith in
        let before : is_buffer (buffer_of old j) ≡ true = sound_at h old state j is s below in
        let alike : Alike (buffer_of new j) (buffer_of old j) =
        other_buffer old new b j leaves apart in
        part_is h old j is below before
        ∙ ap (λ text. (j, text) ∷ [])
        (sym (shown_alike (buffer_of new j) (buffer_of old j) alike before))
        ∙ sym
        (part_is h new j is below (sound_alike (buffer_of new j) (buffer_of old j) alike ∙ before))

    change : given q (flat_map (part_at h new) (numbers_from 0 h.size)) + given q (part_at h old b)
        ≡ given q (flat_map (part_at h old) (numbers_from 0 h.size)) + given q (part_at h new b)
    change = given-changed (part_at h old) (part_at h new) q 0 h.size b (omega arith) (omega arith)
        same_parts

    by_key : (same : Bool) → (q == b) ≡ same
        → given q (flat_map (part_at h new) (numbers_below h.size))
        ≡ cond (q == b) (shown (buffer_of new b)) (amount_of state q)
    by_key true e =
        let before : given q (part_at h old b) ≡ shown (buffer_of old b) =
        given_at h old q b is low (sound_at h old state b is s low)
        ∙ ap (λ same. cond same (shown (buffer_of old b)) 0) e in
        let after : given q (part_at h new b) ≡ shown (buffer_of new b) =
        given_at h new q b is low sound
        ∙ ap (λ same. cond same (shown (buffer_of new b)) 0) e in
        let all : given q (flat_map (part_at h old) (numbers_from 0 h.size))
        ≡ shown (buffer_of old b) =
        sym (amounts_given h old state q is s) ∙ ap (amount_of state) (same_of q b e)
        ∙ shown_at h old state b is s low in
        let now : given q (flat_map (part_at h new) (numbers_from 0 h.size))
        ≡ shown (buffer_of new b) =
        omega (arith, change, before, after, all) in
        now ∙ sym (ap (λ same. cond same (shown (buffer_of new b)) (amount_of state q)) e)
    by_key false e =
        let before : given q (part_at h old b) ≡ 0 =
        given_at h old q b is low (sound_at h old state b is s low)
        ∙ ap (λ same. cond same (shown (buffer_of old b)) 0) e in
        let after : given q (part_at h new b) ≡ 0 =
        given_at h new q b is low sound ∙ ap (λ same. cond same (shown (buffer_of new b)) 0) e in
        let now : given q (flat_map (part_at h new) (numbers_from 0 h.size)) ≡ amount_of state q =
        omega (arith, change, before, after, amounts_given h old state q is s) in
        now ∙ sym (ap (λ same. cond same (shown (buffer_of new b)) (amount_of state q)) e)

-- The memory after buffer b changed to another sound buffer represents the state with the text that
-- this one shows.
pub changed_buffer : (h : Header) (old new : Memory) (state : Amounts) (b : ℕ) → h.subject ≡ Buffers
    → Represents h old state → b < h.size → Leaves old new b → is_buffer (buffer_of new b) ≡ true
    → Represents h new (with_amount state b (shown (buffer_of new b)))
unfolding view_of_words
changed_buffer h old new state b is s low leaves sound = record {
  sound = subst (λ subject. is_sound subject h.size (words_in h new) ≡ true) (sym is) all_sound;
  free = λ lock from to. leaves lock (lock_apart h.size b lock low (omega (arith, plain)))
      ∙ s.free lock from to;
  shows = ap (λ subject. collected (parts_of subject h.size (words_in h new))) is
      ∙ collected-is (flat_map (part_at h new) (numbers_below h.size))
      (with_amount state b (shown (buffer_of new b)))
      (IsAmounts-with_amount state b (shown (buffer_of new b)) (is_amounts h old state s)) amounts;
}
  where
    plain : plain_words h ≡ 8 * h.size
    plain = ap (λ s. plain_words_of s h.size) is

    each_sound : (j : ℕ) → j < h.size → is_buffer (buffer_of new j) ≡ true
    each_sound j below = by_place (j == b) refl
      where
        by_place : (same : Bool) → (j == b) ≡ same → is_buffer (buffer_of new j) ≡ true
        by_place true e = ap (λ i. is_buffer (buffer_of new i)) (same_of j b e) ∙ sound
        by_place false e =
            sound_alike (buffer_of new j) (buffer_of old j)
            (other_buffer old new b j leaves (apart_of j b e))
            ∙ sound_at h old state j is s below

    all_sound : is_sound Buffers h.size (words_in h new) ≡ true
    all_sound = pass_all (λ j. is_buffer (buffer_at (words_in h new) j)) 0 h.size (λ j from to.
        let below : j < h.size = omega arith in
        sound_alike (buffer_at (words_in h new) j) (buffer_of new j) (buffer_in h new j is below)
        ∙ each_sound j below)

    amounts : (q : ℕ)
        → given q (flat_map (part_at h new) (numbers_below h.size))
        ≡ amount_of (with_amount state b (shown (buffer_of new b))) q
    amounts q = amounts_changed h old new state b q is s low leaves sound
        ∙ sym (amount_of-with_amount state b (shown (buffer_of new b)) q)

-- If the buffer shows the same text as before, the memory represents the same state.
pub kept_buffer : (h : Header) (old new : Memory) (state : Amounts) (b : ℕ) → h.subject ≡ Buffers
    → Represents h old state → b < h.size → Leaves old new b → is_buffer (buffer_of new b) ≡ true
    → shown (buffer_of new b) ≡ shown (buffer_of old b) → Represents h new state
kept_buffer h old new state b is s low leaves sound same =
    subst (Represents h new) (ap (with_amount state b)
    (same ∙ sym (shown_at h old state b is s low))
    ∙ same_amount state b (is_amounts h old state s))
    (changed_buffer h old new state b is s low leaves sound)

-- If no cell has changed, it does too.
pub same_cells : (h : Header) (old new : Memory) (state : Amounts) (b : ℕ) → h.subject ≡ Buffers
    → Represents h old state → b < h.size → ((cell : ℕ) → new cell ≡ old cell)
    → Represents h new state
same_cells h old new state b is s low same =
    kept_buffer h old new state b is s low (λ cell other. same cell)
    (sound_alike (buffer_of new b) (buffer_of old b) alike ∙ sound)
    (shown_alike (buffer_of new b) (buffer_of old b) alike sound)
  where
    sound : is_buffer (buffer_of old b) ≡ true
    sound = sound_at h old state b is s low

    alike : Alike (buffer_of new b) (buffer_of old b)
    alike = record { count = same (8 * b); characters = λ i few. same (8 * b + (1 + i)) }
