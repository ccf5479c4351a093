-- Proofs of laws that an impl in src/ names: no contract says what is defined here.
-- The pairs of a sound chunk, and what it shows after its words changed.
use Rattle.std.proofs.Common.{◌≡◌, ℕ, ◌+◌, ◌*◌, ◌%◌, ◌<◌, ◌^◌, true, false, cond, ap, ◌∙◌, sym}
use Rattle.std.proofs.Common.{arith}
use Rattle.std.specs.Prelude.{◌==◌, ◌||◌, not, nat_lt, nat_le}
use Rattle.std.proofs.lemmas.Bool.Decides.{nat_tests}
use Rattle.vyrd_base.specs.Cache.{Chunk, is_chunk, pair_amount, cached_pair, stored_pair}
use Rattle.vyrd_base.specs.Cache.{is_sound_chunk}
use Rattle.vyrd_base.proofs.TestLaws.{first_true, second_true, same_number, same_of}
use Rattle.vyrd_cache.specs.Procedures.{joined}
use Rattle.vyrd_cache.specs.Contents.{shown}
use Rattle.vyrd_cache.specs.Laws.Alone.Stores.{with_cached, with_stored, with_state}

-- what is known of the halves of a sound chunk
pub record IsSmall (c : Chunk) : Type 0 where
  pub state : nat_le c.state 2 ≡ true
  pub cached_lo : nat_lt c.cached_lo (2 ^ 32) ≡ true
  pub cached_hi : nat_lt c.cached_hi (2 ^ 32) ≡ true
  pub stored_lo : nat_lt c.stored_lo (2 ^ 32) ≡ true
  pub stored_hi : nat_lt c.stored_hi (2 ^ 32) ≡ true

pub small : (c : Chunk) → is_sound_chunk c ≡ true → IsSmall c
small c sound =
    let formed : is_chunk c ≡ true =
    first_true (is_chunk c) (not (c.state == 1) || cached_pair c == stored_pair c) sound in
    let three = first_true _ (nat_lt c.stored_hi (2 ^ 32)) formed in
    let two = first_true _ (nat_lt c.stored_lo (2 ^ 32)) three in
    let one = first_true _ (nat_lt c.cached_hi (2 ^ 32)) two in
    record {
      state = first_true _ (nat_lt c.cached_lo (2 ^ 32)) one;
      cached_lo = second_true (nat_le c.state 2) _ one;
      cached_hi = second_true _ (nat_lt c.cached_hi (2 ^ 32)) two;
      stored_lo = second_true _ (nat_lt c.stored_lo (2 ^ 32)) three;
      stored_hi = second_true _ (nat_lt c.stored_hi (2 ^ 32)) formed;
    }

-- a clean chunk's pairs are one
pub clean : (c : Chunk) → is_sound_chunk c ≡ true → (c.state == 1) ≡ true
    → cached_pair c ≡ stored_pair c
clean c sound one =
    let pairs : (not (c.state == 1) || cached_pair c == stored_pair c) ≡ true =
    second_true (is_chunk c) _ sound in
    let same : (cached_pair c == stored_pair c) ≡ true =
    sym (ap (λ b. not b || cached_pair c == stored_pair c) one) ∙ pairs in
    same_of (cached_pair c) (stored_pair c) same

-- a dirty chunk, a clean one and an absent one
pub dirty_sound : (c : Chunk) (low high : ℕ) → is_sound_chunk c ≡ true → nat_lt low (2 ^ 32) ≡ true
    → nat_lt high (2 ^ 32) ≡ true
    → is_sound_chunk (with_cached 2 low high c) ≡ true
dirty_sound c low high sound x y = let s = small c sound in rw (x, y, s.stored_lo, s.stored_hi)

pub fetched_sound : (c : Chunk) → is_sound_chunk c ≡ true
    → is_sound_chunk (with_cached 1 c.stored_lo c.stored_hi c) ≡ true
fetched_sound c sound =
    let s = small c sound in rw (s.stored_lo, s.stored_hi, same_number (stored_pair c))

pub flushed_sound : (c : Chunk) → is_sound_chunk c ≡ true
    → is_sound_chunk (with_stored 1 c.cached_lo c.cached_hi c) ≡ true
flushed_sound c sound =
    let s = small c sound in rw (s.cached_lo, s.cached_hi, same_number (cached_pair c))

pub evicted_sound : (c : Chunk) → is_sound_chunk c ≡ true
    → is_sound_chunk (with_stored 0 c.cached_lo c.cached_hi c) ≡ true
evicted_sound c sound = let s = small c sound in rw (s.cached_lo, s.cached_hi)

pub forgotten_sound : (c : Chunk) → is_sound_chunk c ≡ true → is_sound_chunk (with_state 0 c) ≡ true
forgotten_sound c sound =
    let s = small c sound in rw (s.cached_lo, s.cached_hi, s.stored_lo, s.stored_hi)

-- what a dirty chunk shows, an absent one, and one that is neither
pub shown_dirty : (c : Chunk) → (c.state == 2) ≡ true → shown c ≡ cached_pair c
shown_dirty c two = ap (λ n. cond (n == 0) (stored_pair c) (cached_pair c)) (same_of c.state 2 two)

pub shown_absent : (c : Chunk) → (c.state == 0) ≡ true → shown c ≡ stored_pair c
shown_absent c none = ap (λ b. cond b (stored_pair c) (cached_pair c)) none

pub shown_cached : (c : Chunk) → (c.state == 0) ≡ false → shown c ≡ cached_pair c
shown_cached c some = ap (λ b. cond b (stored_pair c) (cached_pair c)) some

pub shown_clean : (c : Chunk) → is_sound_chunk c ≡ true → (c.state == 2) ≡ false
    → (c.state == 0) ≡ false → shown c ≡ stored_pair c
shown_clean c sound two none =
    shown_cached c none ∙ clean c sound (is_one c.state (small c sound).state two none)
  where
    is_one : (n : ℕ) → nat_le n 2 ≡ true → (n == 2) ≡ false → (n == 0) ≡ false → (n == 1) ≡ true
    is_one n low two none = grind (arith, nat_tests)

-- the number that two small halves make
pub joined_small : (low high : ℕ) → nat_lt low (2 ^ 32) ≡ true → nat_lt high (2 ^ 32) ≡ true
    → joined low high ≡ pair_amount low high
joined_small low high x y =
    let low_is : low % 2 ^ 32 ≡ low = whole low x in
    let high_is : high % 2 ^ 32 ≡ high = whole high y in
    ap (λ n. n * 2 ^ 32 + low % 2 ^ 32) high_is ∙ ap (λ n. high * 2 ^ 32 + n) low_is
  where
    whole : (n : ℕ) → nat_lt n (2 ^ 32) ≡ true → n % 2 ^ 32 ≡ n
    whole n e = let less : n < 2 ^ 32 = below n e in omega arith
      where
        below : (n : ℕ) → nat_lt n (2 ^ 32) ≡ true → n < 2 ^ 32
        below n e = grind (arith, nat_tests)
