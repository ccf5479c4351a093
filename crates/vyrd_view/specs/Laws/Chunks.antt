-- What chunks give.
use Rattle.std.proofs.Common.{◌≡◌, ℕ, ◌+◌, ◌-◌, ◌*◌, ◌/◌, ◌%◌, ◌^◌, ◌<◌, ◌≤◌, Bool, true, false}
use Rattle.std.proofs.Common.{cond, not}
use Rattle.std.proofs.Common.{◌&&◌, List, [], ◌∷◌, length, map, get_or, refl, ap, ◌∙◌, sym, arith}
use Rattle.std.specs.Prelude.{◌==◌, ◌≢◌, nat_lt, slice_index}
use Rattle.vyrd_base.specs.declared.subject.Subject.TheVariants.{Cache}
use Rattle.vyrd_base.specs.Places.{numbers_below}
use Rattle.vyrd_base.specs.Cache.{Chunk, chunk_at, chunk_parts, is_chunk, stored_pair, cached_pair}
use Rattle.vyrd_base.specs.Amounts.{given, part_given, collected}
use Rattle.vyrd_base.proofs.SumLaws.{nothing_given}
use Rattle.vyrd_base.proofs.TestLaws.{same_of, apart_of, below_of, first_true, second_true}
use Rattle.vyrd_view.specs.Decoded.{AreGiven, words_of, pairs_by}
use Rattle.vyrd_view.specs.Known.{of_subject, view_by}
use Rattle.vyrd_view.specs.Pairs.{chunk_amount, chunk_flaw, chunk_gives}
use Rattle.vyrd_view.specs.Laws.Sums.{apart_bounds, own_word, places_show}

-- a chunk has 5 words and two places
pub chunks_narrow : (1 ≤ 5) × (5 ≤ 64) × (1 ≤ 2) × (2 ≤ 4)
chunks_narrow = (omega arith, omega arith, omega arith, omega arith)

pub chunks_bounded : 2 ≤ 2
chunks_bounded = omega arith

pub chunks_few : (size : ℕ) → size ≤ 1024 → size ≤ 2 ^ 20
chunks_few size small = omega (arith, small)

-- ---- the keys and the amounts of places

abbrev chunk_key : ℕ → ℕ → ℕ
chunk_key size m = cond (m % 2 == 0) (m / 2) (size + m / 2)

key_of : (size m : ℕ) (own : List ℕ) → (chunk_gives size (m / 2) own (m % 2)).0 ≡ chunk_key size m
key_of size m own = by_test (m % 2 == 0)
  where
    by_test : (b : Bool) → (cond {A = ℕ × ℕ} b (m / 2, chunk_amount (chunk_at own 0))
        (size + m / 2, chunk_flaw (chunk_at own 0))).0 ≡ cond b (m / 2) (size + m / 2)
    by_test true = refl
    by_test false = refl

-- no two places have one key
keys_differ : (size m n : ℕ) → m < size * 2 → n < size * 2 → m ≢ n
    → chunk_key size m ≢ chunk_key size n
keys_differ size m n in_m in_n apart = by_tests (m % 2 == 0) (n % 2 == 0) refl refl
  where
    by_tests : (a b : Bool) → (m % 2 == 0) ≡ a → (n % 2 == 0) ≡ b
        → cond a (m / 2) (size + m / 2) ≢ cond b (n / 2) (size + n / 2)
    by_tests true true e f =
        let even : m % 2 ≡ 0 = same_of (m % 2) 0 e in
        let also : n % 2 ≡ 0 = same_of (n % 2) 0 f in
        λ same. apart (omega (arith, same, even, also))
    by_tests true false e f = λ same. absurd (omega (arith, same))
    by_tests false true e f = λ same. absurd (omega (arith, same))
    by_tests false false e f =
        let odd : m % 2 ≢ 0 = apart_of (m % 2) 0 e in
        let also : n % 2 ≢ 0 = apart_of (n % 2) 0 f in
        λ same. apart (omega (arith, same, odd, also))

pair_below : (lo hi : ℕ) → lo < 2 ^ 32 → hi < 2 ^ 32 → hi * 2 ^ 32 + lo < 2 ^ 64
pair_below lo hi low high = omega (arith, low, high)

amount_below : (c : Chunk) → chunk_amount c < 2 ^ 64
amount_below c = by_chunk (is_chunk c) refl
  where
    by_chunk : (b : Bool) → is_chunk c ≡ b
        → cond (not b) 0 (cond (c.state == 0) (stored_pair c) (cached_pair c)) < 2 ^ 64
    by_chunk true e =
        let four = first_true _ (nat_lt c.stored_hi (2 ^ 32)) e in
        let three = first_true _ (nat_lt c.stored_lo (2 ^ 32)) four in
        let two = first_true _ (nat_lt c.cached_hi (2 ^ 32)) three in
        let stored : stored_pair c < 2 ^ 64 = pair_below c.stored_lo c.stored_hi
        (below_of c.stored_lo (2 ^ 32) (second_true _ (nat_lt c.stored_lo (2 ^ 32)) four))
        (below_of c.stored_hi (2 ^ 32) (second_true _ (nat_lt c.stored_hi (2 ^ 32)) e)) in
        let cached : cached_pair c < 2 ^ 64 = pair_below c.cached_lo c.cached_hi
        (below_of c.cached_lo (2 ^ 32) (second_true _ (nat_lt c.cached_lo (2 ^ 32)) two))
        (below_of c.cached_hi (2 ^ 32) (second_true _ (nat_lt c.cached_hi (2 ^ 32)) three)) in
        by_state (c.state == 0) stored cached
      where
        by_state : (s : Bool) → stored_pair c < 2 ^ 64 → cached_pair c < 2 ^ 64
            → cond s (stored_pair c) (cached_pair c) < 2 ^ 64
        by_state true stored cached = stored
        by_state false stored cached = cached
    by_chunk false e = omega arith

flaw_below : (c : Chunk) → chunk_flaw c < 2 ^ 64
flaw_below c = by_tests (is_chunk c) (c.state == 1 && not (cached_pair c == stored_pair c))
  where
    by_tests : (a b : Bool) → cond (not a) 2 (cond b 1 0) < 2 ^ 64
    by_tests true true = omega arith
    by_tests true false = omega arith
    by_tests false b = omega arith

given_below : (size h j : ℕ) (own : List ℕ) → (chunk_gives size h own j).1 < 2 ^ 64
given_below size h j own = by_test (j == 0)
  where
    by_test : (b : Bool) → (cond {A = ℕ × ℕ} b (h, chunk_amount (chunk_at own 0))
        (size + h, chunk_flaw (chunk_at own 0))).1 < 2 ^ 64
    by_test true = amount_below (chunk_at own 0)
    by_test false = flaw_below (chunk_at own 0)

-- no two places give to one key, and each gives less than 2^64
pub chunks_fit : (size : ℕ) (pairs : List (ℕ × ℕ)) (q : ℕ)
    → AreGiven 2 size (chunk_gives size) pairs → given q pairs < 2 ^ 64
chunks_fit size pairs q are =
    let most : given q pairs ≤ 2 ^ 64 - 1 = apart_bounds (2 ^ 64 - 1) q pairs
    (λ m n low lower other same.
    keys_differ size m n (omega (arith, low, are.count)) (omega (arith, lower, are.count)) other
    (sym (key m low) ∙ same ∙ key n lower))
    (λ m low. let one = are.each m low in
    omega (
      arith,
      ap (λ (p : ℕ × ℕ). p.1) one.is,
      given_below size (m / 2) (m % 2) one.own,
    )) in
    omega (arith, most)
  where
    key : (m : ℕ) → m < length pairs → (get_or pairs m (0, 0)).0 ≡ chunk_key size m
    key m low = let one = are.each m low in
        ap (λ (p : ℕ × ℕ). p.0) one.is ∙ key_of size m one.own

-- ---- zeroed words

pub quiet_chunk : (size h j : ℕ)
    → (chunk_gives size h (0 ∷ 0 ∷ 0 ∷ 0 ∷ 0 ∷ []) j).1 ≡ 0
quiet_chunk size h j = by_test (j == 0)
  where
    by_test : (b : Bool) → (cond {A = ℕ × ℕ} b (h, 0) (size + h, 0)).1 ≡ 0
    by_test true = refl
    by_test false = refl

-- ---- what all chunks show

chunk_both : (q size h : ℕ) (c : Chunk)
    → part_given q (h, chunk_amount c) + part_given q (size + h, chunk_flaw c)
    ≡ given q (chunk_parts size h c)
chunk_both q size h c = by_chunk (is_chunk c)
  where
    shown : ℕ
    shown = cond (c.state == 0) (stored_pair c) (cached_pair c)

    flawed : Bool
    flawed = c.state == 1 && not (cached_pair c == stored_pair c)

    by_pairs : (b : Bool)
        → part_given q (h, cond (c.state == 0) (stored_pair c) (cached_pair c))
        + part_given q (size + h, cond b 1 0)
        ≡ given q ((h, cond (c.state == 0) (stored_pair c) (cached_pair c))
        ∷ cond {A = List (ℕ × ℕ)} b ((size + h, 1) ∷ []) [])
    by_pairs true = omega arith
    by_pairs false = omega (arith, nothing_given q (size + h))

    by_chunk : (b : Bool)
        → part_given q (h, cond (not b) 0 (cond (c.state == 0) (stored_pair c) (cached_pair c)))
        + part_given q (
          size + h,
          cond (not b) 2 (cond (c.state == 1 && not (cached_pair c == stored_pair c)) 1 0),
        )
        ≡ given q (cond {A = List (ℕ × ℕ)} (not b) ((size + h, 2) ∷ [])
        ((h, cond (c.state == 0) (stored_pair c) (cached_pair c))
        ∷ cond {A = List (ℕ × ℕ)} (c.state == 1 && not (cached_pair c == stored_pair c))
        ((size + h, 1) ∷ []) []))
    by_chunk true = by_pairs (c.state == 1 && not (cached_pair c == stored_pair c))
    by_chunk false = omega (arith, nothing_given q h)

-- a chunk is read from its own words
own_chunk : (words : List ℕ) (h : ℕ) → chunk_at (words_of 5 h words) 0 ≡ chunk_at words h
own_chunk words h = λ i. record {
  state = word 0 (5 * h) (omega arith) (omega arith) i;
  cached_lo = word 1 (5 * h + 1) (omega arith) (omega arith) i;
  cached_hi = word 2 (5 * h + 2) (omega arith) (omega arith) i;
  stored_lo = word 3 (5 * h + 3) (omega arith) (omega arith) i;
  stored_hi = word 4 (5 * h + 4) (omega arith) (omega arith) i;
}
  where
    word : (j w : ℕ) → j < 5 → h * 5 + j ≡ w
        → slice_index (words_of 5 h words) j ≡ slice_index words w
    word j w low is = own_word 5 h words j low ∙ ap (slice_index words) is

chunk_own : (q size h : ℕ) (words : List ℕ)
    → given q (map (chunk_gives size h (words_of 5 h words)) (numbers_below 2))
    ≡ given q (chunk_parts size h (chunk_at words h))
chunk_own q size h words =
    let own : Chunk = chunk_at (words_of 5 h words) 0 in
    let two : given q (map (chunk_gives size h (words_of 5 h words)) (numbers_below 2))
    ≡ part_given q (h, chunk_amount own) + part_given q (size + h, chunk_flaw own) = omega arith in
    two ∙ chunk_both q size h own ∙ ap (λ c. given q (chunk_parts size h c)) (own_chunk words h)

-- the chunks show what the cache's parts give
pub chunks_show : (size : ℕ) (words : List ℕ)
    → collected (pairs_by 5 2 size (chunk_gives size) words)
    ≡ view_by (of_subject Cache size) words
chunks_show size words =
    places_show 5 2 (chunk_gives size) words (λ h. chunk_parts size h (chunk_at words h))
    (λ q h. chunk_own q size h words) size
