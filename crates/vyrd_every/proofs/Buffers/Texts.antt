-- What is known of buffers while their locks are held, and what a block that stores into one makes
-- of the state.
use Rattle.vyrd_every.proofs.Prelude
use Prelude.{◌≡◌, ℕ, ◌+◌, ◌*◌, ◌<◌, ◌≤◌, Bool, true, not, List, [], ◌∷◌, length, refl, ap, ◌∙◌, sym}
use Prelude.{arith, ◌==◌, nat_le, slice_index, list_any, Header, Buffers, Called, Amounts}
use Prelude.{amount_of, with_amount, Memory, with_cell, Represents, other_cell, buffer_of, shown}
use Prelude.{sound_at, shown_at, Locals, Access, written, Rely, buffers, at}
use Rattle.vyrd_base.specs.Buffers.{text_of, text_length, has_room, joined, cut_to, are_characters}
use Rattle.vyrd_base.specs.Buffers.{is_buffer}
use Rattle.vyrd_buffers.specs.Cells.{count_cell, character_cell, lock_of}
use Rattle.vyrd_buffers.specs.Laws.Alone.Changes.{Leaves}
use Rattle.vyrd_buffers.specs.Laws.Alone.Texts.{length_shown, room_for, room_for_one, cut_sound}
use Rattle.vyrd_buffers.specs.Laws.Alone.Texts.{cut_shown, uncut_shown}
use Rattle.vyrd_buffers.specs.Laws.Alone.Stores.{with_characters, with_characters-other}
use Rattle.vyrd_buffers.specs.Laws.Alone.Stores.{with_appended, with_appended-other}
use Rattle.vyrd_buffers.specs.Laws.Alone.Stores.{with_count-other, with_count-is}
use Rattle.vyrd_buffers.specs.Laws.Alone.Done.{changed, appended}

-- a buffer whose lock is among these
pub record IsHeld (h : Header) (locks : List ℕ) (b : ℕ) : Type 0 where
  pub low : b < h.size
  pub held : list_any (λ lock. lock == lock_of h b) locks ≡ true

pub word_access : (h : Header) (locks : List ℕ) (committed in_block : Bool) (called : Called)
    (b cell : ℕ) → IsHeld h locks b → 8 * b ≤ cell → cell < 8 * b + 8
    → Access (buffers h) (at locks committed in_block called) cell
word_access h locks committed in_block called b cell held from to = grind (arith, held, lock_of)

-- the words of such buffers are as they were
pub record Stays (h : Header) (locks : List ℕ) (before now : Memory) : Type 0 where
  pub word : (b cell : ℕ) → IsHeld h locks b → 8 * b ≤ cell → cell < 8 * b + 8 → now cell
      ≡ before cell

pub stays_so : (h : Header) (locks : List ℕ) (committed in_block : Bool) (called : Called)
    (k : Locals) (before now : Memory)
    → Rely (buffers h) (at locks committed in_block called) k before now → Stays h locks before now
stays_so h locks committed in_block called k before now rely = record {
  word = λ b cell held from to. rely.held cell
      (word_access h locks committed in_block called b cell held from to);
}

pub stays_same : (h : Header) (locks : List ℕ) (now : Memory) → Stays h locks now now
stays_same h locks now = record { word = λ b cell held from to. refl }

pub stays_more : (h : Header) (locks : List ℕ) (a b c : Memory) → Stays h locks a b
    → Stays h locks b c → Stays h locks a c
stays_more h locks a b c first second = grind arith

-- the count of such a buffer, and its character i
pub stays_count : (h : Header) (locks : List ℕ) (before now : Memory) (b : ℕ)
    → Stays h locks before now → IsHeld h locks b → now (8 * b) ≡ before (8 * b)
stays_count h locks before now b stays held = stays.word b (8 * b) held (omega arith) (omega arith)

pub stays_character : (h : Header) (locks : List ℕ) (before now : Memory) (b i : ℕ)
    → Stays h locks before now → IsHeld h locks b → i < 7
    → now (8 * b + (1 + i)) ≡ before (8 * b + (1 + i))
stays_character h locks before now b i stays held few = search (held, few, arith)

-- the writes when these are stored as characters of a buffer, from character i on, after earlier
-- ones
abbrev pub writes_of : List ℕ → ℕ → ℕ → List (ℕ × ℕ) → List (ℕ × ℕ)
writes_of [] b i earlier = earlier
writes_of (character ∷ characters) b i earlier = writes_of characters b (i + 1)
    ((character_cell b i, character) ∷ earlier)

pub written_is : (characters : List ℕ) (b i : ℕ) (earlier : List (ℕ × ℕ)) (memory : Memory)
    → written (writes_of characters b i earlier) memory ≡ with_characters characters b i
    (written earlier memory)
written_is [] b i earlier memory = refl
written_is (character ∷ characters) b i earlier memory = written_is characters b (i + 1)
    ((character_cell b i, character) ∷ earlier) memory

-- the memory after a block that stored these characters, and then the count
abbrev pub after_block : List ℕ → ℕ → ℕ → ℕ → Memory → Memory
after_block characters b i count memory = with_cell (with_characters characters b i memory)
    (count_cell b) count

-- other buffers are left alone
pub block_leaves : (characters : List ℕ) (b i count : ℕ) (memory : Memory) → i + length characters
    ≤ 7
    → Leaves memory (after_block characters b i count memory) b
block_leaves characters b i count memory few = search (other_cell, with_characters-other, arith)

-- Characters are appended that make this text.
pub appended_represents : (h : Header) (memory : Memory) (state : Amounts) (b count n text : ℕ)
    (characters : List ℕ) → h.subject ≡ Buffers
    → Represents h memory state → b < h.size → memory (8 * b) ≡ count → length characters ≡ n
    → count + n ≤ 7
    → are_characters (slice_index characters) n ≡ true → text_of (slice_index characters) n ≡ text
    → Represents h (with_appended characters b count n memory)
    (with_amount state b (joined (amount_of state b) text))
appended_represents h memory state b count n text characters is s low has many few sound same =
    appended h _ memory _ _ b count n _ characters is s low (λ cell below. refl) has many few sound
    same (λ cell apart. with_appended-other characters b _ n memory _ many few apart)
    (λ cell below. refl)

-- The buffer is cut to n characters.
pub cut_represents : (h : Header) (memory : Memory) (state : Amounts) (b n : ℕ) → h.subject
    ≡ Buffers → Represents h memory state → b < h.size
    → n < memory (8 * b) → Represents h (with_cell memory (count_cell b) n)
    (with_amount state b (cut_to n (amount_of state b)))
cut_represents h memory state b n is s low less =
    changed h _ after _ _ b _ is s low (with_count-other b n _) (λ cell below. refl)
    (cut_sound (buffer_of memory b) (buffer_of after b) n (with_count-is b n memory) sound less)
    (cut_shown _ _ n (with_count-is b n memory) sound less
    ∙ ap (cut_to n) (sym (shown_at h _ _ b is s low)))
  where
    after : Memory
    after = with_cell memory (count_cell b) n

    sound : is_buffer (buffer_of memory b) ≡ true
    sound = sound_at h _ _ b is s low

-- One that has no more is cut already.
pub uncut_represents : (h : Header) (memory : Memory) (state : Amounts) (b n : ℕ) → h.subject
    ≡ Buffers → Represents h memory state → b < h.size
    → memory (8 * b) ≤ n → Represents h memory (with_amount state b (cut_to n (amount_of state b)))
uncut_represents h memory state b n is s low few =
    changed h _ memory _ _ b _ is s low (λ cell apart. refl) (λ cell below. refl) sound
    (sym (uncut_shown _ n sound few) ∙ ap (cut_to n) (sym (shown_at h _ _ b is s low)))
  where
    sound : is_buffer (buffer_of memory b) ≡ true
    sound = sound_at h _ _ b is s low

-- how long a buffer's text is
pub length_at : (h : Header) (memory : Memory) (state : Amounts) (b : ℕ) → h.subject ≡ Buffers
    → Represents h memory state → b < h.size
    → text_length (amount_of state b) ≡ memory (8 * b)
length_at h memory state b is s low =
    ap text_length (shown_at h memory state b is s low) ∙ length_shown (buffer_of memory b)
    (sound_at h memory state b is s low)

-- whether there is room for one character, and for the text of another buffer
pub room_for_one_at : (h : Header) (memory : Memory) (state : Amounts) (b x : ℕ) → h.subject
    ≡ Buffers → Represents h memory state → b < h.size → x < 255
    → has_room (amount_of state b) (x + 1) ≡ not (nat_le 7 (memory (8 * b)))
room_for_one_at h memory state b x is s low small =
    ap (λ text. has_room text (x + 1)) (shown_at h memory state b is s low)
    ∙ room_for_one (buffer_of memory b) x (sound_at h memory state b is s low) small

pub room_at : (h : Header) (memory : Memory) (state : Amounts) (a b : ℕ) → h.subject ≡ Buffers
    → Represents h memory state → a < h.size → b < h.size
    → has_room (amount_of state a) (amount_of state b) ≡ nat_le (memory (8 * a) + memory (8 * b)) 7
room_at h memory state a b is s low_a low_b =
    ap (λ text. has_room text (amount_of state b)) (shown_at h memory state a is s low_a)
    ∙ ap (has_room (shown (buffer_of memory a))) (shown_at h memory state b is s low_b)
    ∙ room_for (buffer_of memory a) (buffer_of memory b) (sound_at h memory state a is s low_a)
    (sound_at h memory state b is s low_b)
