-- Proofs of laws that an impl in src/ names: no contract says what is defined here.
-- The text of a sound buffer, and what a buffer shows after its words changed.
use Rattle.std.proofs.Common.{◌≡◌, ℕ, ◌+◌, ◌*◌, ◌^◌, ◌<◌, ◌≤◌, min, true, ap, ◌∙◌, sym, arith}
use Rattle.std.specs.Prelude.{nat_le, ◌&&◌, not}
use Rattle.std.proofs.lemmas.Bool.Decides.{nat_tests}
use Rattle.vyrd_base.specs.Buffers.{Buffer, text_of, text_length, has_room, joined, cut_to}
use Rattle.vyrd_base.specs.Buffers.{are_characters, is_buffer}
use Rattle.vyrd_base.proofs.TestLaws.{both_true, second_true, is_at_most}
use Rattle.vyrd_base.proofs.TextLaws.{text_same, characters_same, character_below, all_characters}
use Rattle.vyrd_base.proofs.TextLaws.{characters_split, text_split}
use Rattle.vyrd_base.proofs.TextLaws.{length_of_text, joined_texts, cut_text, uncut_text}
use Rattle.vyrd_base.proofs.TextLaws.{one_character}
use Rattle.vyrd_buffers.specs.Contents.{shown}
use Rattle.vyrd_buffers.specs.Laws.Alone.Changes.{count_at_most}

-- the characters of a sound buffer
pub characters_in : (buffer : Buffer) → is_buffer buffer ≡ true
    → are_characters buffer.character buffer.count ≡ true
characters_in buffer sound = second_true (nat_le buffer.count 7) _ sound

pub character_in : (buffer : Buffer) → is_buffer buffer ≡ true → (i : ℕ) → i < buffer.count
    → buffer.character i < 255
character_in buffer sound =
    character_below buffer.character buffer.count (characters_in buffer sound)

-- its count is the lesser of it and 7
pub count_is : (buffer : Buffer) → is_buffer buffer ≡ true → min buffer.count 7 ≡ buffer.count
count_is buffer sound = let most = count_at_most buffer sound in omega arith

-- and how long its text is
pub length_shown : (buffer : Buffer) → is_buffer buffer ≡ true
    → text_length (shown buffer) ≡ buffer.count
length_shown buffer sound = length_of_text buffer.character buffer.count
    (count_at_most buffer sound) (characters_in buffer sound)

-- a sound buffer has room for the text of another one, and for one character
pub room_for : (a b : Buffer) → is_buffer a ≡ true → is_buffer b ≡ true
    → has_room (shown a) (shown b) ≡ nat_le (a.count + b.count) 7
room_for a b sound other =
    ap (λ n. nat_le (n + text_length (shown b)) 7) (length_shown a sound)
    ∙ ap (λ n. nat_le (a.count + n) 7) (length_shown b other)

pub room_for_one : (a : Buffer) (x : ℕ) → is_buffer a ≡ true → x < 255
    → has_room (shown a) (x + 1) ≡ not (nat_le 7 a.count)
room_for_one a x sound low =
    ap (λ n. nat_le (n + text_length (x + 1)) 7) (length_shown a sound)
    ∙ ap (λ n. nat_le (a.count + n) 7) (one_character x low)
    ∙ tests a.count
  where
    tests : (n : ℕ) → nat_le (n + 1) 7 ≡ not (nat_le 7 n)
    tests n = grind (arith, nat_tests)

-- a buffer after that many of these characters were appended
pub record Appended (old new : Buffer) (more : ℕ → ℕ) (m : ℕ) : Type 0 where
  pub count : new.count ≡ old.count + m
  pub kept : (i : ℕ) → i < old.count → new.character i ≡ old.character i
  pub added : (i : ℕ) → i < m → new.character (old.count + i) ≡ more i

pub appended_sound : (old new : Buffer) (more : ℕ → ℕ) (m : ℕ) → Appended old new more m
    → is_buffer old ≡ true → are_characters more m ≡ true → old.count + m ≤ 7 → is_buffer new ≡ true
appended_sound old new more m is sound characters few =
    ap (λ n. nat_le n 7 && are_characters new.character n) is.count
    ∙ both_true (nat_le (old.count + m) 7) _ (is_at_most (old.count + m) 7 few) (characters_split
    new.character old.count m
    ∙ both_true _ _
    (characters_same new.character old.character old.count is.kept ∙ characters_in old sound)
    (characters_same (λ i. new.character (old.count + i)) more m is.added ∙ characters))

pub appended_shown : (old new : Buffer) (more : ℕ → ℕ) (m : ℕ) → Appended old new more m
    → is_buffer old ≡ true
    → shown new ≡ joined (shown old) (text_of more m)
appended_shown old new more m is sound =
    ap (text_of new.character) is.count ∙ text_split new.character old.count m
    ∙ ap (λ text. text + text_of (λ i. new.character (old.count + i)) m * 256 ^ old.count)
    (text_same new.character old.character old.count is.kept)
    ∙ ap (λ text. text_of old.character old.count + text * 256 ^ old.count)
    (text_same (λ i. new.character (old.count + i)) more m is.added)
    ∙ sym (joined_texts old.character more old.count m (count_at_most old sound)
    (characters_in old sound))

-- the text of one character
pub one_text : (x : ℕ) → text_of (λ i. x) 1 ≡ x + 1
one_text x = omega arith

-- a buffer after its first n characters were kept
pub record Cut (old new : Buffer) (n : ℕ) : Type 0 where
  pub count : new.count ≡ n
  pub kept : (i : ℕ) → i < n → new.character i ≡ old.character i

pub cut_sound : (old new : Buffer) (n : ℕ) → Cut old new n → is_buffer old ≡ true → n < old.count
    → is_buffer new ≡ true
cut_sound old new n is sound fewer =
    let most = count_at_most old sound in
    ap (λ count. nat_le count 7 && are_characters new.character count) is.count
    ∙ both_true (nat_le n 7) _ (is_at_most n 7 (omega arith))
    (characters_same new.character old.character n is.kept
    ∙ all_characters old.character n (λ i low. character_in old sound i (omega arith)))

pub cut_shown : (old new : Buffer) (n : ℕ) → Cut old new n → is_buffer old ≡ true → n < old.count
    → shown new ≡ cut_to n (shown old)
cut_shown old new n is sound fewer =
    ap (text_of new.character) is.count ∙ text_same new.character old.character n is.kept
    ∙ sym
    (cut_text old.character old.count n (count_at_most old sound) (characters_in old sound) fewer)

-- a buffer that has no more than n
pub uncut_shown : (buffer : Buffer) (n : ℕ) → is_buffer buffer ≡ true → buffer.count ≤ n
    → cut_to n (shown buffer) ≡ shown buffer
uncut_shown buffer n sound few = uncut_text buffer.character buffer.count n
    (count_at_most buffer sound) (characters_in buffer sound) few
