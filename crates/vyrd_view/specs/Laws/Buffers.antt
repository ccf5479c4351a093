-- What string buffers give.
use Rattle.std.proofs.Common.{◌≡◌, ℕ, ◌+◌, ◌-◌, ◌*◌, ◌/◌, ◌%◌, ◌^◌, ◌<◌, ◌≤◌, Bool, true, false}
use Rattle.std.proofs.Common.{cond, ◌&&◌}
use Rattle.std.proofs.Common.{List, [], ◌∷◌, length, get_or, refl, ap, ◌∙◌, sym, arith}
use Rattle.std.specs.Prelude.{nat_le, slice_index}
use Rattle.std.proofs.Math.Nat.{mod-eq_of_lt, add-mod_left, pow-le-pow_right}
use Rattle.vyrd_base.specs.declared.subject.Subject.TheVariants.{Buffers}
use Rattle.vyrd_base.specs.Buffers.{buffer_at, buffer_parts, is_buffer, are_characters, text_of}
use Rattle.vyrd_base.specs.Amounts.{given, collected}
use Rattle.vyrd_base.proofs.TextLaws.{text_same, characters_same, text_below}
use Rattle.vyrd_base.proofs.TestLaws.{at_most_of, first_true, second_true}
use Rattle.vyrd_view.specs.Decoded.{AreGiven, words_of, pairs_by}
use Rattle.vyrd_view.specs.Known.{of_subject, view_by}
use Rattle.vyrd_view.specs.Pairs.{buffer_gives}
use Rattle.vyrd_view.specs.Laws.Sums.{apart_bounds, own_word, places_show}

-- a buffer has 8 words and one place
pub buffers_narrow : (1 ≤ 8) × (8 ≤ 64) × (1 ≤ 1) × (1 ≤ 4)
buffers_narrow = (omega arith, omega arith, omega arith, omega arith)

pub buffers_bounded : 1 ≤ 1
buffers_bounded = omega arith

pub buffers_few : (size : ℕ) → size ≤ 1024 → size ≤ 2 ^ 20
buffers_few size small = omega (arith, small)

-- ---- the keys and the amounts

key_of : (size b j : ℕ) (own : List ℕ) → b < size → (buffer_gives size b own j).0 % size ≡ b
key_of size b j own low = by_buffer (is_buffer (buffer_at own 0))
  where
    text : ℕ
    text = text_of (buffer_at own 0).character (buffer_at own 0).count

    by_buffer : (s : Bool) → (cond {A = ℕ × ℕ} s
        (b, text_of (buffer_at own 0).character (buffer_at own 0).count) (size + b, 1)).0 % size ≡ b
    by_buffer true = mod-eq_of_lt low
    by_buffer false = add-mod_left size b ∙ mod-eq_of_lt low

amount_below : (size b j : ℕ) (own : List ℕ) → (buffer_gives size b own j).1 < 2 ^ 64
amount_below size b j own = by_buffer (is_buffer (buffer_at own 0)) refl
  where
    f : ℕ → ℕ
    f = (buffer_at own 0).character

    n : ℕ
    n = (buffer_at own 0).count

    by_buffer : (s : Bool) → is_buffer (buffer_at own 0) ≡ s → (cond {A = ℕ × ℕ} s
        (b, text_of (buffer_at own 0).character (buffer_at own 0).count) (size + b, 1)).1 < 2 ^ 64
    by_buffer true e =
        let few : n ≤ 7 = at_most_of n 7 (first_true (nat_le n 7) (are_characters f n) e) in
        let below : text_of f n < 256 ^ n =
        text_below f n (second_true (nat_le n 7) (are_characters f n) e) in
        let most : 256 ^ n ≤ 256 ^ 7 = pow-le-pow_right (omega arith) few in
        omega (arith, below, most)
    by_buffer false e = omega arith

-- no two buffers give to one key, and each gives less than 2^64
pub buffers_fit : (size : ℕ) (pairs : List (ℕ × ℕ)) (q : ℕ)
    → AreGiven 1 size (buffer_gives size) pairs → given q pairs < 2 ^ 64
buffers_fit size pairs q are =
    let most : given q pairs ≤ 2 ^ 64 - 1 = apart_bounds (2 ^ 64 - 1) q pairs
    (λ b c low lower other same. other (sym (key b low) ∙ ap (λ k. k % size) same ∙ key c lower))
    (λ b low. let one = are.each b low in
    omega (
      arith,
      ap (λ (p : ℕ × ℕ). p.1) one.is,
      amount_below size (b / 1) (b % 1) one.own,
    )) in
    omega (arith, most)
  where
    key : (b : ℕ) → b < length pairs → (get_or pairs b (0, 0)).0 % size ≡ b
    key b low =
        let one = are.each b low in
        let part : b / 1 ≡ b = omega arith in
        ap (λ (p : ℕ × ℕ). p.0 % size) one.is
        ∙ key_of size (b / 1) (b % 1) one.own (omega (arith, low, are.count)) ∙ part

-- ---- what all buffers show

-- a buffer is read from its own words
own_buffer : (size b j : ℕ) (words : List ℕ)
    → buffer_gives size b (words_of 8 b words) j ∷ [] ≡ buffer_parts size b (buffer_at words b)
own_buffer size b j words =
    ap (λ (k : ℕ). pair_of (nat_le k 7 && are_characters f k) (text_of f k) ∷ []) count
    ∙ ap (λ (p : ℕ × ℕ). p ∷ []) (by_count (nat_le n 7) refl)
    ∙ one_part (nat_le n 7 && are_characters g n)
  where
    f : ℕ → ℕ
    f = (buffer_at (words_of 8 b words) 0).character

    g : ℕ → ℕ
    g = (buffer_at words b).character

    n : ℕ
    n = (buffer_at words b).count

    pair_of : Bool → ℕ → ℕ × ℕ
    pair_of s text = cond {A = ℕ × ℕ} s (b, text) (size + b, 1)

    word : (i w : ℕ) → i < 8 → b * 8 + i ≡ w
        → slice_index (words_of 8 b words) i ≡ slice_index words w
    word i w low is = own_word 8 b words i low ∙ ap (slice_index words) is

    count : (buffer_at (words_of 8 b words) 0).count ≡ (buffer_at words b).count
    count = word 0 (8 * b) (omega arith) (omega arith)

    by_count : (few : Bool) → nat_le n 7 ≡ few
        → pair_of (nat_le n 7 && are_characters f n) (text_of f n)
        ≡ pair_of (nat_le n 7 && are_characters g n) (text_of g n)
    by_count true e =
        let inside : (i : ℕ) → i < n → f i ≡ g i = λ i low.
        word (8 * 0 + (1 + i)) (8 * b + (1 + i)) (omega (arith, low, at_most_of n 7 e))
        (omega arith) in
        ap (λ s. pair_of (nat_le n 7 && s) (text_of f n)) (characters_same f g n inside)
        ∙ ap (pair_of (nat_le n 7 && are_characters g n)) (text_same f g n inside)
    by_count false e =
        ap (λ s. pair_of (s && are_characters f n) (text_of f n)) e
        ∙ sym (ap (λ s. pair_of (s && are_characters g n) (text_of g n)) e)

    one_part : (s : Bool) → cond {A = ℕ × ℕ} s (b, text_of g n) (size + b, 1) ∷ []
        ≡ cond {A = List (ℕ × ℕ)} s ((b, text_of g n) ∷ []) ((size + b, 1) ∷ [])
    one_part true = refl
    one_part false = refl

-- the buffers show what their parts give
pub buffers_show : (size : ℕ) (words : List ℕ)
    → collected (pairs_by 8 1 size (buffer_gives size) words)
    ≡ view_by (of_subject Buffers size) words
buffers_show size words =
    places_show 8 1 (buffer_gives size) words (λ b. buffer_parts size b (buffer_at words b))
    (λ q b. ap (given q) (own_buffer size b 0 words)) size
