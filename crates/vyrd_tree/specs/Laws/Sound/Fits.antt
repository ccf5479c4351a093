-- Proofs of laws that an impl in src/ names: no contract says what is defined here. The numbers of
-- entries fit, and there are few of them, when one more comes in, one goes, or five are parted.
use Rattle.std.proofs.Common.{◌≡◌, ℕ, zero, suc, ◌+◌, ◌-◌, ◌^◌, ◌<◌, ◌≤◌, min, Bool, true, false}
use Rattle.std.proofs.Common.{cond, List, [], ◌∷◌, length, take, drop, refl, ap, arith}
use Rattle.std.specs.Prelude.{◌==◌, nat_lt, insert, remove, Some, None}
use Rattle.std.specs.List.{position_or_len}
use Rattle.std.proofs.lemmas.Bool.Decides.{nat_tests}
use Rattle.std.proofs.lemmas.List.{length-drop, length-take}
use Rattle.std.proofs.lemmas.List.Sums.{count_by-le-length}
use Rattle.vyrd_tree.specs.Procedures.Split.{place_below, lower_half, upper_half, first_key}
use Rattle.vyrd_tree.specs.Procedures.{place_of}
use Rattle.vyrd_tree.specs.Laws.Sound.Walk.{AreSmallEntries}

pub small_take : (n : ℕ) (entries : List (ℕ × ℕ)) → AreSmallEntries entries
    → AreSmallEntries (take n entries)
small_take zero entries small = tt
small_take (suc n) [] small = tt
small_take (suc n) (x ∷ xs) small = (small.0, small.1, small_take n xs small.2)

pub small_drop : (n : ℕ) (entries : List (ℕ × ℕ)) → AreSmallEntries entries
    → AreSmallEntries (drop n entries)
small_drop zero entries small = small
small_drop (suc n) [] small = tt
small_drop (suc n) (x ∷ xs) small = small_drop n xs small.2

pub small_insert : (entries : List (ℕ × ℕ)) (place key value : ℕ) → key < 2 ^ 63 → value < 2 ^ 63
    → AreSmallEntries entries
    → AreSmallEntries (insert entries place (key, value))
small_insert entries zero key value k v small = (k, v, small)
small_insert [] (suc p) key value k v small = (k, v, tt)
small_insert (x ∷ xs) (suc p) key value k v small =
    (small.0, small.1, small_insert xs p key value k v small.2)

pub small_remove : (entries : List (ℕ × ℕ)) (place : ℕ) → AreSmallEntries entries
    → AreSmallEntries (remove entries place)
small_remove [] zero small = tt
small_remove (x ∷ xs) zero small = small.2
small_remove [] (suc p) small = tt
small_remove (x ∷ xs) (suc p) small = (small.0, small.1, small_remove xs p small.2)

pub small_first : (entries : List (ℕ × ℕ)) → AreSmallEntries entries → first_key entries < 2 ^ 63
small_first [] small = omega arith
small_first (x ∷ xs) small = small.0

pub length_insert : (entries : List (ℕ × ℕ)) (place : ℕ) (e : ℕ × ℕ)
    → length (insert entries place e) ≡ suc (length entries)
length_insert entries zero e = refl
length_insert [] (suc p) e = refl
length_insert (x ∷ xs) (suc p) e = ap suc (length_insert xs p e)

pub length_remove : (entries : List (ℕ × ℕ)) (place : ℕ)
    → length (remove entries place) ≤ length entries
length_remove [] zero = omega arith
length_remove (x ∷ xs) zero = omega arith
length_remove [] (suc p) = omega arith
length_remove (x ∷ xs) (suc p) =
    let shorter : length (remove xs p) ≤ length xs = length_remove xs p in omega (arith, shorter)

-- the place of a new entry is one of the entries' places, or the one after them
pub place_fits : (key : ℕ) (entries : List (ℕ × ℕ)) → place_below key entries ≤ length entries
place_fits key entries = count_by-le-length (λ entry. nat_lt entry.0 key) entries

-- the place of a key that is there is one of the entries' places
pub place_low : (key : ℕ) (entries : List (ℕ × ℕ)) (place : ℕ) → place_of key entries ≡ Some place
    → place < length entries
place_low key entries place e =
    by_test (nat_lt (position_or_len (λ entry. entry.0 == key) entries) (length entries)) refl e
  where
    by_test : (b : Bool)
        → nat_lt (position_or_len (λ entry. entry.0 == key) entries) (length entries) ≡ b
        → cond b (Some (position_or_len (λ entry. entry.0 == key) entries)) None ≡ Some place
        → place < length entries
    by_test true low is =
        let same : position_or_len (λ entry. entry.0 == key) entries ≡ place = cc in
        let lower : position_or_len (λ entry. entry.0 == key) entries < length entries =
        grind (arith, nat_tests) in
        omega (arith, same, lower)
    by_test false low is = cc

-- entries from a place on stand below place 4, if the place is at most 4
pub ends_low : (entries : List (ℕ × ℕ)) (place : ℕ) → length entries ≤ 4 → place ≤ 4
    → place + length (drop place entries) ≤ 4
ends_low entries place few low =
    let len : length (drop place entries) ≡ length entries - place = length-drop place entries in
    omega (arith, len, few, low)

-- the halves of five entries
pub two_above : (five : List (ℕ × ℕ)) → length five ≤ 5 → length (upper_half five) ≤ 2
two_above five few =
    let len : length (drop 3 five) ≡ length five - 3 = length-drop 3 five in omega (arith, len, few)

pub three_below : (five : List (ℕ × ℕ)) → length (lower_half five) ≤ 3
three_below five =
    let len : length (take 3 five) ≡ min 3 (length five) = length-take 3 five in omega (arith, len)
