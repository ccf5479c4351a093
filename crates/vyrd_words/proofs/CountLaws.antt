-- Commits that are kept in bytes, and some apart.
use Rattle.std.proofs.Common.{◌≡◌, ◌≢◌, ℕ, zero, suc, ◌+◌, ◌<◌, ◌≤◌, List, [], ◌∷◌, ◌++◌, length}
use Rattle.std.proofs.Common.{take, drop, set, get_or, refl, ap, sym, ◌∙◌, arith}
use Rattle.std.proofs.lemmas.List.{take-append-drop, drop_more, get_or_read}
use Rattle.std.specs.Prelude.{◌==◌, Bool, true, false, cond, insert, if◌then◌else◌}
use Rattle.vyrd_base.proofs.TestLaws.{is_same, isnt_same, lower_isnt}
use Rattle.vyrd_words.specs.Counts.{apart_in, counts_of, just, with_late}
use Rattle.vyrd_words.proofs.CutLaws.{read_at}

-- a count for each byte
pub length-counts_of : (bytes : List ℕ) (large : List (ℕ × List (ℕ × ℕ)))
    → length (counts_of bytes large) ≡ length bytes
length-counts_of [] large = refl
length-counts_of (byte ∷ bytes) large =
    elim (byte == 255) as (λ b. length
    (cond b (get_or large 0 (just 0) ∷ counts_of bytes (drop 1 large))
    (just byte ∷ counts_of bytes large)) ≡ suc (length bytes)) [
      | true ↦ ap suc (length-counts_of bytes (drop 1 large))
      | false ↦ ap suc (length-counts_of bytes large)
    ]

pub byte_within : (bytes : List ℕ) (large counts : List (ℕ × List (ℕ × ℕ))) (i : ℕ)
    → counts_of bytes large ≡ counts → i < length counts → i < length bytes
byte_within bytes large counts i is low = grind (arith, length-counts_of bytes large)

pub says_count : (bytes : List ℕ) (i byte : ℕ) → i < length bytes → byte ≡ get_or bytes i byte
    → byte ≢ 255 → (get_or bytes i 0 == 255) ≡ false
says_count bytes i byte low is small = search (isnt_same, small, read_at, arith)

-- bytes in two parts
pub apart_in-append : (xs ys : List ℕ) → apart_in (xs ++ ys) ≡ apart_in xs + apart_in ys
apart_in-append [] ys = omega arith
apart_in-append (x ∷ xs) ys =
    elim (x == 255) as (λ b. cond b (suc (apart_in (xs ++ ys))) (apart_in (xs ++ ys))
    ≡ cond b (suc (apart_in xs)) (apart_in xs) + apart_in ys) [
      | true ↦ omega (arith, apart_in-append xs ys)
      | false ↦ apart_in-append xs ys
    ]

pub apart_in-parts : (i : ℕ) (bytes : List ℕ) → apart_in (take i bytes) + apart_in (drop i bytes)
    ≡ apart_in bytes
apart_in-parts i bytes = sym (apart_in-append (take i bytes) (drop i bytes))
    ∙ ap apart_in (take-append-drop i bytes)

-- one more byte, which says that its count is kept apart, or says the count
pub apart_more : (byte : ℕ) (bytes : List ℕ) → (byte == 255) ≡ true → apart_in (byte ∷ bytes)
    ≡ suc (apart_in bytes)
apart_more byte bytes e = ap (λ b. cond b (suc (apart_in bytes)) (apart_in bytes)) e

pub apart_same : (byte : ℕ) (bytes : List ℕ) → (byte == 255) ≡ false → apart_in (byte ∷ bytes)
    ≡ apart_in bytes
apart_same byte bytes e = ap (λ b. cond b (suc (apart_in bytes)) (apart_in bytes)) e

-- a small count is pushed
pub pushed_small : (bytes : List ℕ) (large : List (ℕ × List (ℕ × ℕ))) (count : ℕ) → count < 255
    → counts_of (bytes ++ count ∷ []) large ≡ counts_of bytes large ++ just count ∷ []
pushed_small [] large count low = cc (lower_isnt count 255 low)
pushed_small (byte ∷ bytes) large count low =
    elim (byte == 255) as (λ b. cond b
    (get_or large 0 (just 0) ∷ counts_of (bytes ++ count ∷ []) (drop 1 large))
    (just byte ∷ counts_of (bytes ++ count ∷ []) large)
    ≡ cond b (get_or large 0 (just 0) ∷ counts_of bytes (drop 1 large))
    (just byte ∷ counts_of bytes large) ++ just count ∷ []) [
      | true ↦ cc (pushed_small bytes (drop 1 large) count low)
      | false ↦ cc (pushed_small bytes large count low)
    ]

pub apart_small : (bytes : List ℕ) (count : ℕ) → count < 255 → apart_in (bytes ++ count ∷ [])
    ≡ apart_in bytes
apart_small bytes count low = search (apart_in-append, count, apart_same, lower_isnt, arith)

-- a commit that is kept apart is pushed
pub pushed_large : (bytes : List ℕ) (large : List (ℕ × List (ℕ × ℕ))) (count : ℕ × List (ℕ × ℕ))
    → apart_in bytes ≡ length large
    → counts_of (bytes ++ 255 ∷ []) (large ++ count ∷ []) ≡ counts_of bytes large ++ count ∷ []
pushed_large [] [] count all = refl
pushed_large [] (l ∷ large) count all = absurd (omega (arith, all))
pushed_large (byte ∷ bytes) [] count all =
    (elim (byte == 255) as (λ b. cond b (suc (apart_in bytes)) (apart_in bytes) ≡ 0
    → cond b (count ∷ counts_of (bytes ++ 255 ∷ []) [])
    (just byte ∷ counts_of (bytes ++ 255 ∷ []) (count ∷ []))
    ≡ cond b (just 0 ∷ counts_of bytes []) (just byte ∷ counts_of bytes []) ++ count ∷ []) [
      | true ↦ λ e. absurd (omega (arith, e))
      | false ↦ λ e. ap (λ ks. just byte ∷ ks) (pushed_large bytes [] count e)
    ]) all
pushed_large (byte ∷ bytes) (l ∷ large) count all =
    (elim (byte == 255) as (λ b. cond b (suc (apart_in bytes)) (apart_in bytes) ≡ suc (length large)
    → cond b (l ∷ counts_of (bytes ++ 255 ∷ []) (large ++ count ∷ []))
    (just byte ∷ counts_of (bytes ++ 255 ∷ []) (l ∷ large ++ count ∷ []))
    ≡ cond b (l ∷ counts_of bytes large) (just byte ∷ counts_of bytes (l ∷ large)) ++ count ∷ []) [
      | true ↦ λ e. ap (λ ks. l ∷ ks) (pushed_large bytes large count (omega (arith, e)))
      | false ↦ λ e. ap (λ ks. just byte ∷ ks) (pushed_large bytes (l ∷ large) count e)
    ]) all

-- the count of a byte
pub count_small : (bytes : List ℕ) (large : List (ℕ × List (ℕ × ℕ))) (i : ℕ) → i < length bytes
    → (get_or bytes i 0 == 255) ≡ false → get_or (counts_of bytes large) i (just 0)
    ≡ just (get_or bytes i 0)
count_small [] large i low small = absurd (omega (arith, low))
count_small (byte ∷ bytes) large zero low small = cc
count_small (byte ∷ bytes) large (suc i) low small =
    elim (byte == 255) as (λ b. get_or
    (cond b (get_or large 0 (just 0) ∷ counts_of bytes (drop 1 large))
    (just byte ∷ counts_of bytes large)) (suc i) (just 0) ≡ just (get_or bytes i 0)) [
      | true ↦ count_small bytes (drop 1 large) i (omega (arith, low)) small
      | false ↦ count_small bytes large i (omega (arith, low)) small
    ]

get_nothing : (n : ℕ) → get_or [] n (just 0) ≡ just 0
get_nothing n = search arith

get_first : (n : ℕ) (xs : List (ℕ × List (ℕ × ℕ))) → get_or (drop 1 xs) n (just 0)
    ≡ get_or xs (suc n) (just 0)
get_first n xs = search (get_nothing, arith)

pub count_apart : (bytes : List ℕ) (large : List (ℕ × List (ℕ × ℕ))) (i : ℕ) → i < length bytes
    → (get_or bytes i 0 == 255) ≡ true
    → get_or (counts_of bytes large) i (just 0) ≡ get_or large (apart_in (take i bytes)) (just 0)
count_apart [] large i low apart = absurd (omega (arith, low))
count_apart (byte ∷ bytes) large zero low apart = cc
count_apart (byte ∷ bytes) large (suc i) low apart =
    elim (byte == 255) as (λ b. get_or
    (cond b (get_or large 0 (just 0) ∷ counts_of bytes (drop 1 large))
    (just byte ∷ counts_of bytes large)) (suc i) (just 0)
    ≡ get_or large (cond b (suc (apart_in (take i bytes))) (apart_in (take i bytes))) (just 0)) [
      | true ↦ count_apart bytes (drop 1 large) i (omega (arith, low)) apart
          ∙ get_first (apart_in (take i bytes)) large
      | false ↦ count_apart bytes large i (omega (arith, low)) apart
    ]

-- such a place is that of a count that is kept apart
pub place_below : (bytes : List ℕ) (large : List (ℕ × List (ℕ × ℕ))) (i : ℕ) → i < length bytes
    → (get_or bytes i 0 == 255) ≡ true → apart_in bytes ≡ length large
    → apart_in (take i bytes) < length large
place_below bytes large i low apart all =
    let next : apart_in (drop i bytes) ≡ suc (apart_in (drop (i + 1) bytes)) = ap apart_in
    (drop_more _ i 0 low) ∙ apart_more (get_or _ i 0) (drop (i + 1) bytes) apart in
    omega (arith, all, next, apart_in-parts i bytes)

-- the commit that was looked up
pub value_apart : (bytes : List ℕ) (large : List (ℕ × List (ℕ × ℕ))) (i place : ℕ)
    (value : ℕ × List (ℕ × ℕ)) → apart_in bytes ≡ length large
    → i < length bytes → (get_or bytes i 0 == 255) ≡ true → place ≡ apart_in (take i bytes)
    → value ≡ get_or large place value
    → value ≡ get_or (counts_of bytes large) i (just 0)
value_apart bytes large i place value all low apart place_is value_is =
    let within : place < length large =
    omega (arith, place_is, place_below bytes large i low apart all) in
    cc (get_or_read large place value within value_is (just 0), count_apart bytes large i low apart)

-- a count that is kept apart becomes another one
pub set_apart : (bytes : List ℕ) (large : List (ℕ × List (ℕ × ℕ))) (i : ℕ)
    (count : ℕ × List (ℕ × ℕ)) → i < length bytes → (get_or bytes i 0 == 255) ≡ true
    → apart_in bytes ≡ length large
    → counts_of bytes (set large (apart_in (take i bytes)) count)
    ≡ set (counts_of bytes large) i count
set_apart [] large i count low apart all = absurd (omega (arith, low))
set_apart (byte ∷ bytes) [] zero count low apart all = cc (apart_more byte bytes apart)
set_apart (byte ∷ bytes) (l ∷ large) zero count low apart all = cc
set_apart (byte ∷ bytes) [] (suc i) count low apart all =
    absurd (let e = place_below (byte ∷ bytes) [] (suc i) low apart all in omega (arith, e))
set_apart (byte ∷ bytes) (l ∷ large) (suc i) count low apart all =
    (elim (byte == 255) as (λ b. cond b (suc (apart_in bytes)) (apart_in bytes) ≡ suc (length large)
    → cond b (get_or
    (set (l ∷ large) (cond b (suc (apart_in (take i bytes))) (apart_in (take i bytes))) count) 0
    (just 0) ∷ counts_of bytes
    (drop 1 (set (l ∷ large) (cond b (suc (apart_in (take i bytes))) (apart_in (take i bytes)))
    count))) (just byte ∷ counts_of bytes
    (set (l ∷ large) (cond b (suc (apart_in (take i bytes))) (apart_in (take i bytes))) count))
    ≡ set (cond b (l ∷ counts_of bytes large) (just byte ∷ counts_of bytes (l ∷ large)))
    (suc i) count) [
      | true ↦ λ e. cc
          (set_apart bytes large i count (omega (arith, low)) apart (omega (arith, e)))
      | false ↦ λ e. cc (set_apart bytes (l ∷ large) i count (omega (arith, low)) apart e)
    ]) all

-- a small count becomes one that is kept apart
pub set_grown : (bytes : List ℕ) (large : List (ℕ × List (ℕ × ℕ))) (i : ℕ)
    (count : ℕ × List (ℕ × ℕ)) → i < length bytes → (get_or bytes i 0 == 255) ≡ false
    → apart_in bytes ≡ length large
    → counts_of (set bytes i 255) (insert large (apart_in (take i bytes)) count)
    ≡ set (counts_of bytes large) i count
set_grown [] large i count low small all = absurd (omega (arith, low))
set_grown (byte ∷ bytes) large zero count low small all = cc
set_grown (byte ∷ bytes) [] (suc i) count low small all =
    (elim (byte == 255) as (λ b. cond b (suc (apart_in bytes)) (apart_in bytes) ≡ 0
    → cond b (get_or
    (insert [] (cond b (suc (apart_in (take i bytes))) (apart_in (take i bytes))) count) 0 (just 0)
    ∷ counts_of (set bytes i 255)
    (drop 1 (insert [] (cond b (suc (apart_in (take i bytes))) (apart_in (take i bytes))) count)))
    (just byte ∷ counts_of (set bytes i 255)
    (insert [] (cond b (suc (apart_in (take i bytes))) (apart_in (take i bytes))) count))
    ≡ set (cond b (just 0 ∷ counts_of bytes []) (just byte ∷ counts_of bytes [])) (suc i) count) [
      | true ↦ λ e. absurd (omega (arith, e))
      | false ↦ λ e. cc (set_grown bytes [] i count (omega (arith, low)) small e)
    ]) all
set_grown (byte ∷ bytes) (l ∷ large) (suc i) count low small all =
    (elim (byte == 255) as (λ b. cond b (suc (apart_in bytes)) (apart_in bytes) ≡ suc (length large)
    → cond b (get_or
    (insert (l ∷ large) (cond b (suc (apart_in (take i bytes))) (apart_in (take i bytes))) count) 0
    (just 0)
    ∷ counts_of (set bytes i 255)
    (drop 1 (insert (l ∷ large) (cond b (suc (apart_in (take i bytes))) (apart_in (take i bytes)))
    count)))
    (just byte ∷ counts_of (set bytes i 255)
    (insert (l ∷ large) (cond b (suc (apart_in (take i bytes))) (apart_in (take i bytes))) count))
    ≡ set (cond b (l ∷ counts_of bytes large) (just byte ∷ counts_of bytes (l ∷ large)))
    (suc i) count) [
      | true ↦ λ e. cc (set_grown bytes large i count (omega (arith, low)) small (omega (arith, e)))
      | false ↦ λ e. cc (set_grown bytes (l ∷ large) i count (omega (arith, low)) small e)
    ]) all

-- it is the same, if it has the same count
set_read : (ks : List (ℕ × List (ℕ × ℕ))) (i : ℕ) (k : ℕ × List (ℕ × ℕ)) → i < length ks
    → get_or ks i (just 0) ≡ k → set ks i k ≡ ks
set_read [] i k low is = absurd (omega (arith, low))
set_read (x ∷ ks) zero k low is = ap (λ y. y ∷ ks) (sym is)
set_read (x ∷ ks) (suc i) k low is = ap (λ ys. x ∷ ys) (set_read ks i k (omega (arith, low)) is)

pub same_grown : (bytes : List ℕ) (large : List (ℕ × List (ℕ × ℕ))) (i byte place : ℕ)
    (k : ℕ × List (ℕ × ℕ)) → i < length bytes → (get_or bytes i 0 == 255) ≡ false
    → byte ≡ get_or bytes i byte → place ≡ apart_in (take i bytes) → k ≡ just byte → apart_in bytes
    ≡ length large
    → counts_of (set bytes i 255) (insert large place k) ≡ counts_of bytes large
same_grown bytes large i byte place k low small read place_is is all =
    ap (λ n. counts_of (set bytes i 255) (insert large n k)) place_is
    ∙ set_grown bytes large i k low small all
    ∙ set_read (counts_of bytes large) i k (omega (arith, low, length-counts_of bytes large))
    (count_small bytes large i low small ∙ ap just (sym (get_or_read bytes i byte low read 0))
    ∙ sym is)

pub apart_set_grown : (bytes : List ℕ) (i : ℕ) → i < length bytes → (get_or bytes i 0 == 255)
    ≡ false → apart_in (set bytes i 255) ≡ suc (apart_in bytes)
apart_set_grown [] i low small = absurd (omega (arith, low))
apart_set_grown (byte ∷ bytes) zero low small = ap suc (sym (apart_same byte bytes small))
apart_set_grown (byte ∷ bytes) (suc i) low small =
    let rest = apart_set_grown bytes i (omega (arith, low)) small in
    elim (byte == 255) as (λ b. cond b (suc (apart_in (set bytes i 255)))
    (apart_in (set bytes i 255)) ≡ suc (cond b (suc (apart_in bytes)) (apart_in bytes))) [
      | true ↦ ap suc rest
      | false ↦ rest
    ]

-- a commit that is kept apart has further late writes
pub late_added : (bytes : List ℕ) (large counts : List (ℕ × List (ℕ × ℕ))) (i place : ℕ)
    (value new : ℕ × List (ℕ × ℕ)) (writes : List (ℕ × ℕ)) → counts_of bytes large ≡ counts
    → apart_in bytes ≡ length large → i < length bytes → get_or bytes i 0 ≡ 255
    → place ≡ apart_in (take i bytes) → value ≡ get_or large place value
    → new ≡ with_late value writes → counts_of bytes (set large place new)
    ≡ set counts i (with_late (get_or counts i (just 0)) writes)
late_added bytes large counts i place value new writes is all low apart place_is read more =
    grind (arith, apart, place_is, read, more, set_apart, is_same, value_apart)

-- no more counts are kept apart than there are
pub apart_few : (bytes : List ℕ) → apart_in bytes ≤ length bytes
apart_few [] = omega arith
apart_few (byte ∷ bytes) = by_test (byte == 255) (apart_few bytes)
  where
    by_test : (b : Bool) → apart_in bytes ≤ length bytes
        → (if b then suc (apart_in bytes) else apart_in bytes) ≤ suc (length bytes)
    by_test b rest = search arith
