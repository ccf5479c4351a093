-- Sets of locks: what is in a set that was changed, and in what two sets share.
use Rattle.std.proofs.Common.{◌≡◌, ◌≢◌, ℕ, ◌+◌, ◌*◌, ◌/◌, ◌%◌, ◌^◌, ◌<◌, ◌≤◌, Bool, true, false}
use Rattle.std.proofs.Common.{◌&&◌, min, List, length, replicate, get_or, set, refl, ap, ◌∙◌, sym}
use Rattle.std.proofs.Common.{subst, arith}
use Rattle.std.specs.Prelude.{◌==◌, nat_lt}
use Rattle.std.specs.Int.{bit_at, bit_not, w64}
use Rattle.std.specs.Int.Bits.{bit_and, bit_or}
use Rattle.std.proofs.lemmas.List.{get_or-set_same, get_or-set_other, get_or-replicate, get_or_past}
use Rattle.std.proofs.lemmas.List.{length-replicate, length-set}
use Rattle.std.proofs.lemmas.List.FromFn.{get_or-map-range_with_len, length-map-range_with_len}
use Rattle.std.proofs.lemmas.List.FromFn.{fill_by_all}
use Rattle.std.proofs.lemmas.Nat.Bits.{bit_at-lt, bit_at-zero, bit_at_and, bit_at_set_same}
use Rattle.std.proofs.lemmas.Nat.Bits.{bit_at_set_other, bit_at_clear_same, bit_at_clear_other}
use Rattle.std.proofs.lemmas.Nat.Bits.{same_from_bits_below}
use Rattle.vyrd_base.proofs.TestLaws.{same_of, is_same, apart_of, not_below_of, below_of}
use Rattle.vyrd_mover.specs.LockSets.{words_for, has_lock, mask_of, with_lock, without_lock}
use Rattle.vyrd_mover.specs.LockSets.{in_both}

-- another lock, where the word of the first is another one with the same bits for the others
other_lock : (words : List ℕ) (lock other word : ℕ) → lock ≢ other → lock / 64 < length words
    → ((i : ℕ) → i < 64 → i ≢ lock % 64 → bit_at word i ≡ bit_at (get_or words (lock / 64) 0) i)
    → bit_at (get_or (set words (lock / 64) word) (other / 64) 0) (other % 64)
    ≡ bit_at (get_or words (other / 64) 0) (other % 64)
other_lock words lock other word ne within same = go (lock / 64 == other / 64) refl
  where
    bit_apart : lock / 64 ≡ other / 64 → other % 64 ≢ lock % 64
    bit_apart at = omega (arith, ne, at)

    go : (b : Bool) → (lock / 64 == other / 64) ≡ b
        → bit_at (get_or (set words (lock / 64) word) (other / 64) 0) (other % 64)
        ≡ bit_at (get_or words (other / 64) 0) (other % 64)
    go true h =
        let at : lock / 64 ≡ other / 64 = same_of _ _ h in
        subst (λ p. bit_at (get_or (set words (lock / 64) word) p 0) (other % 64)
        ≡ bit_at (get_or words p 0) (other % 64)) at
        (ap (λ w. bit_at w (other % 64)) (get_or-set_same words (lock / 64) word 0 within)
        ∙ same (other % 64) (omega arith) (bit_apart at))
    go false h =
        let apart : other / 64 ≢ lock / 64 = λ at. apart_of _ _ h (sym at) in
        ap (λ w. bit_at w (other % 64))
        (get_or-set_other words (lock / 64) (other / 64) word 0 apart)

pub with_same : (words : List ℕ) (lock : ℕ) → lock / 64 < length words
    → has_lock (with_lock words lock) lock ≡ true
unfolding has_lock with_lock
with_same words lock within =
    is_same _ 1 (ap (λ w. bit_at w (lock % 64))
    (get_or-set_same words (lock / 64) (bit_or (get_or words (lock / 64) 0) (mask_of lock)) 0
    within)
    ∙ bit_at_set_same w64 (get_or words (lock / 64) 0) (lock % 64) (omega arith))

pub with_other : (words : List ℕ) (lock other : ℕ) → lock ≢ other → lock / 64 < length words
    → has_lock (with_lock words lock) other ≡ has_lock words other
unfolding has_lock with_lock
with_other words lock other ne within = ap (λ b. b == 1)
    (other_lock words lock other (bit_or (get_or words (lock / 64) 0) (mask_of lock)) ne within
    (λ i low apart. bit_at_set_other w64 _ (lock % 64) (omega arith) i apart))

pub length-with_lock : (words : List ℕ) (lock : ℕ) → length (with_lock words lock) ≡ length words
unfolding with_lock
length-with_lock words lock = length-set _ _ _

pub without_same : (words : List ℕ) (lock : ℕ) → lock / 64 < length words
    → has_lock (without_lock words lock) lock ≡ false
unfolding has_lock without_lock
without_same words lock within =
    ap (λ b. b == 1)
    (ap (λ w. bit_at w (lock % 64))
    (get_or-set_same words (lock / 64)
    (bit_and (get_or words (lock / 64) 0) (bit_not w64 (mask_of lock))) 0 within)
    ∙ bit_at_clear_same w64 (get_or words (lock / 64) 0) (lock % 64) (omega arith))

pub without_other : (words : List ℕ) (lock other : ℕ) → lock ≢ other → lock / 64 < length words
    → has_lock (without_lock words lock) other ≡ has_lock words other
unfolding has_lock without_lock
without_other words lock other ne within = ap (λ b. b == 1)
    (other_lock words lock other (bit_and _ _) ne within
    (λ i low apart. bit_at_clear_other w64 _ (lock % 64) (omega arith) i low apart))

pub length-without_lock : (words : List ℕ) (lock : ℕ) → length (without_lock words lock)
    ≡ length words
unfolding without_lock
length-without_lock words lock = length-set _ _ _

-- the lower of two bits is 1 where both are
both_bits : (a b : ℕ) → a < 2 → b < 2 → (min a b == 1) ≡ ((a == 1) && (b == 1))
both_bits a b low_a low_b = grind arith

pub has-in_both : (words others : List ℕ) (lock : ℕ) → has_lock (in_both words others) lock
    ≡ (has_lock words lock && has_lock others lock)
unfolding has_lock in_both
has-in_both words others lock = go (nat_lt (lock / 64) (length words)) refl
  where
    go : (b : Bool) → nat_lt (lock / 64) (length words) ≡ b
        → has_lock (in_both words others) lock ≡ (has_lock words lock && has_lock others lock)
    go true h =
        let within = below_of _ _ h in
        ap (λ w. bit_at w (lock % 64) == 1)
        (get_or-map-range_with_len (λ place. bit_and (get_or words place 0) (get_or others place 0))
        0 (length words) (lock / 64) (lock / 64) 0 within (omega arith))
        ∙ ap (λ b. b == 1) (bit_at_and (get_or words (lock / 64) 0) (get_or others (lock / 64) 0)
        (lock % 64))
        ∙ both_bits _ _ (bit_at-lt (get_or words (lock / 64) 0) (lock % 64))
        (bit_at-lt (get_or others (lock / 64) 0) (lock % 64))
    go false h =
        let past = not_below_of _ _ h in
        let none = ap (λ w. bit_at w (lock % 64) == 1) (get_or_past words (lock / 64) 0 past)
        ∙ ap (λ b. b == 1) (bit_at-zero (lock % 64)) in
        let count = length-map-range_with_len
        (λ place. bit_and (get_or words place 0) (get_or others place 0)) 0 (length words) in
        ap (λ w. bit_at w (lock % 64) == 1)
        (get_or_past (in_both words others) (lock / 64) 0 (omega (arith, past, count)))
        ∙ ap (λ b. b == 1) (bit_at-zero (lock % 64)) ∙ ap (λ b. b && has_lock others lock)
        (sym none)

-- the words up to a place are met with those of the other set
pub record IsMet (words others items : List ℕ) (n : ℕ) : Type 0 where
  pub size : length items ≡ length words
  pub met : (place : ℕ) → place < n → get_or items place 0 ≡ bit_and (get_or words place 0)
      (get_or others place 0)
  pub rest : (place : ℕ) → n ≤ place → get_or items place 0 ≡ get_or words place 0

pub met_none : (words others : List ℕ) → IsMet words others words 0
met_none words others = grind arith

pub met_more : (words others items : List ℕ) (n : ℕ) → IsMet words others items n → n < length words
    → IsMet words others (set items n (bit_and (get_or items n 0) (get_or others n 0))) (n + 1)
met_more words others items n is low =
    record {
      size = length-set _ n _ ∙ is.size;
      met = λ place below. go place below (place == n) refl;
      rest = λ place least.
          let ne : place ≢ n = omega arith in
          get_or-set_other _ n _ _ 0 ne ∙ is.rest _ (omega arith);
    }
  where
    go : (place : ℕ) → place < n + 1 → (b : Bool) → (place == n) ≡ b
        → get_or (set items n (bit_and (get_or items n 0) (get_or others n 0))) place 0
        ≡ bit_and (get_or words place 0) (get_or others place 0)
    go place below true h =
        cc (
          same_of place n h,
          get_or-set_same items n
              (bit_and (get_or items n 0) (get_or others n 0)) 0 (omega (arith, is.size)),
          is.rest n (omega arith),
        )
    go place below false h = search (apart_of, get_or-set_other, arith)

pub met_all : (words others items : List ℕ) (n : ℕ) → IsMet words others items n → length words ≤ n
    → items ≡ in_both words others
unfolding in_both
met_all words others items n is all = fill_by_all _ _ _ 0 is.size (λ k low. is.met k (omega arith))

-- a set whose words are 0
pub has_none : (words : List ℕ) → ((place : ℕ) → place < length words → get_or words place 0 ≡ 0)
    → (lock : ℕ) → has_lock words lock ≡ false
unfolding has_lock
has_none words zeros lock = go (nat_lt _ _) refl
  where
    go : (b : Bool) → nat_lt (lock / 64) (length words) ≡ b → has_lock words lock ≡ false
    go true h = cc (zeros (lock / 64) (below_of _ _ h), bit_at-zero (lock % 64))
    go false h = cc (get_or_past words (lock / 64) 0 (not_below_of _ _ h), bit_at-zero (lock % 64))

pub has_none_of_zeros : (n lock : ℕ) → has_lock (replicate n 0) lock ≡ false
has_none_of_zeros n lock = has_none _
    (λ place low. get_or-replicate n _ 0 0 (subst (λ k. place < k) (length-replicate n 0) low)) _

bit_is_0 : (b : ℕ) → b < 2 → (b == 1) ≡ false → b ≡ 0
bit_is_0 b low e = let ne = apart_of b 1 e in omega arith

-- the words of a set without locks are 0
pub word_is_0 : (words : List ℕ) (place : ℕ) → get_or words place 0 < 2 ^ 64
    → ((lock : ℕ) → has_lock words lock ≡ false) → get_or words place 0 ≡ 0
unfolding has_lock
word_is_0 words place small none =
    same_from_bits_below 64 (get_or words place 0) 0 small (omega arith)
    (λ i low. bit_is_0 _ (bit_at-lt (get_or words place 0) i) (at i low) ∙ sym (bit_at-zero i))
  where
    at : (i : ℕ) → i < 64 → (bit_at (get_or words place 0) i == 1) ≡ false
    at i low =
        let word : (place * 64 + i) / 64 ≡ place = omega arith in
        let bit : (place * 64 + i) % 64 ≡ i = omega arith in
        subst (λ p. (bit_at (get_or words p 0) i == 1) ≡ false) word
        (subst (λ b. (bit_at (get_or words ((place * 64 + i) / 64) 0) b == 1) ≡ false) bit
        (none (place * 64 + i)))

-- a lock has a place in its set
pub place_of_lock : (lock locks : ℕ) → lock < locks → lock / 64 < words_for locks
place_of_lock lock locks low = omega arith
