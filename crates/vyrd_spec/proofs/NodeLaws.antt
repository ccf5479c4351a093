-- What the tests of a tree's nodes come to, place by place.
use Rattle.vyrd_spec.proofs.Prelude
use Prelude.{◌≡◌, ◌≢◌, ℕ, zero, suc, ◌+◌, ◌-◌, ◌<◌, ◌≤◌, min, Bool, true, false, ◌&&◌, ◌||◌, List}
use Prelude.{◌∷◌, length, map, get_or, Option, refl, ap, ◌∙◌, sym, arith, ◌==◌, nat_lt, nat_le}
use Prelude.{count_by, IfSome, list_all, numbers_from, numbers_below, level_of, count_of, right_of}
use Prelude.{entries_of, nodes, leads_to, left_of, is_linked, has_sound_keys, is_same, isnt_same}
use Prelude.{is_at_most, both_true, element_below, length_below, have_one_left}
use Rattle.std.proofs.lemmas.List.Folds.{list_all-map}
use Rattle.std.proofs.Math.Bool.{and-false}
use Rattle.vyrd_base.specs.Tree.{rises}
use Rattle.vyrd_spec.specs.NodeKeys.{key_at, is_next_key, is_in_range, entry_at, is_sound_key}
use Rattle.vyrd_spec.proofs.RowLaws.{each_passes, one_fails, found_below}

pub left_at : (last : ℕ) (words : List ℕ) (lefts : List (Option ℕ)) (q : ℕ) (d : Option ℕ)
    → lefts ≡ map (left_of last words) (nodes last)
    → q ≤ last → get_or lefts q d ≡ left_of last words q
left_at last words lefts q d are low = search (element_below, left_of, arith)

pub many_lefts : (last : ℕ) (words : List ℕ) (lefts : List (Option ℕ))
    → lefts ≡ map (left_of last words) (nodes last) → length lefts ≡ last + 1
many_lefts last words lefts are = ap length are ∙ length_below (left_of last words) (last + 1)

pub left_in_use : (last : ℕ) (words : List ℕ) (q : ℕ) (o : Option ℕ) → o ≡ left_of last words q
    → IfSome o (λ m. m ≤ last)
left_in_use last words q o e = grind (arith, found_below)

-- if at most one link leads to each node, the link of a node decides
pub linked_is : (last : ℕ) (words : List ℕ) (n : ℕ) → have_one_left last words ≡ true → n ≤ last
    → is_linked last words n
    ≡ (right_of words n == 0 || nat_le (right_of words n) last && level_of words
    (right_of words n) == level_of words n)
linked_is last words n one low =
    cc (each_passes (λ q. nat_le (count_by (leads_to words q) (nodes last)) 1) (last + 1) n one
    (omega (arith, low)))

-- tests that tell the same of each number
all_alike : (p q : ℕ → Bool) (k n : ℕ) → ((i : ℕ) → k ≤ i → p i ≡ q i)
    → list_all p (numbers_from k n) ≡ list_all q (numbers_from k n)
all_alike p q k zero same = refl
all_alike p q k (suc n) same =
    cc (same k (omega arith), all_alike p q (k + 1) n (λ i from. same i (omega (arith, from))))

-- two tests at once
both_tests : (p q : ℕ → Bool) (k n : ℕ)
    → (list_all p (numbers_from k n) && list_all q (numbers_from k n)) ≡ list_all (λ i. p i && q i)
    (numbers_from k n)
both_tests p q k zero = refl
both_tests p q k (suc n) =
    mixed (p k) (q k) (list_all p (numbers_from (k + 1) n)) (list_all q (numbers_from (k + 1) n))
    ∙ ap (λ b. (p k && q k) && b) (both_tests p q (k + 1) n)
  where
    mixed : (a b c d : Bool) → ((a && c) && (b && d)) ≡ ((a && b) && (c && d))
    mixed a b c d = search arith

-- numbers rise where each is above the one before it
abbrev above_last : (ℕ → ℕ) → ℕ → Bool
above_last f j = nat_lt (f (j - 1)) (f j)

rises_from : (f : ℕ → ℕ) (k n : ℕ) → rises (map f (numbers_from k (suc n)))
    ≡ list_all (above_last f) (numbers_from (k + 1) n)
rises_from f k zero = refl
rises_from f k (suc n) = grind (arith, rises_from f (k + 1) n)

rises_all : (f : ℕ → ℕ) (n : ℕ) → rises (map f (numbers_below n))
    ≡ list_all (λ j. j == 0 || above_last f j) (numbers_below n)
rises_all f n = grind (arith, rises_from, all_alike, isnt_same)

keys_from : (words : List ℕ) (n k m : ℕ)
    → map (λ entry. entry.0) (map (entry_at words n) (numbers_from k m)) ≡ map (key_at words n)
    (numbers_from k m)
keys_from words n k zero = refl
keys_from words n k (suc m) = ap (λ keys. key_at words n k ∷ keys) (keys_from words n (k + 1) m)

pub sound_keys_are : (last : ℕ) (words : List ℕ) (n : ℕ) → has_sound_keys last words n
    ≡ (nat_le (count_of words n) 4 && list_all (is_sound_key last words n)
    (numbers_below (min (count_of words n) 4)))
sound_keys_are last words n =
    cc (
      keys_from words n 0 m,
      grouped (nat_le (count_of words n) 4) (rises keys) (list_all
          (is_in_range last words n) keys),
      rises_all (key_at words n) m,
      list_all-map (is_in_range
          last words n) (key_at words n) (numbers_below m),
      both_tests (is_next_key words n) (λ j.
          is_in_range last words n (key_at words n j)) 0 m,
    )
  where
    m : ℕ
    m = min (count_of words n) 4

    keys : List ℕ
    keys = map (key_at words n) (numbers_below m)

    grouped : (a b c : Bool) → (a && b && c) ≡ (a && (b && c))
    grouped a b c = search arith

-- the entries of a node, place by place
pub all_entries : (p : ℕ × ℕ → Bool) (words : List ℕ) (n : ℕ)
    → list_all p (entries_of words n) ≡ list_all (λ j. p (entry_at words n j))
    (numbers_below (min (count_of words n) 4))
all_entries p words n = list_all-map p (entry_at words n) (numbers_below (min (count_of words n) 4))

pub linked_end : (last : ℕ) (words : List ℕ) (n : ℕ) → have_one_left last words ≡ true → n ≤ last
    → right_of words n ≡ 0
    → is_linked last words n ≡ true
linked_end last words n one low ends = grind (arith, ends, linked_is, is_same)

pub linked_on : (last : ℕ) (words : List ℕ) (n : ℕ) → have_one_left last words ≡ true → n ≤ last
    → right_of words n ≢ 0
    → right_of words n ≤ last → is_linked last words n
    ≡ (level_of words (right_of words n) == level_of words n)
linked_on last words n one low on in_use = grind (arith, linked_is, isnt_same, is_at_most)

-- a key that isn't sound, and keys that all are
pub keys_fail : (last : ℕ) (words : List ℕ) (n j : ℕ) → j < min (count_of words n) 4
    → is_sound_key last words n j ≡ false
    → false ≡ has_sound_keys last words n
keys_fail last words n j low fails =
    sym (sound_keys_are last words n
    ∙ ap (λ b. nat_le (count_of words n) 4 && b)
    (one_fails (is_sound_key last words n) (min (count_of words n) 4) j low fails)
    ∙ and-false (nat_le (count_of words n) 4))

pub keys_pass : (last : ℕ) (words : List ℕ) (n m : ℕ) → count_of words n ≤ 4
    → m ≡ min (count_of words n) 4
    → list_all (is_sound_key last words n) (numbers_below m) ≡ true
    → true ≡ has_sound_keys last words n
keys_pass last words n m few is all = grind (arith, few, sound_keys_are, both_true, is_at_most)

-- an entry that fails a test, and entries that all pass
pub entries_fail : (p : ℕ × ℕ → Bool) (words : List ℕ) (n j : ℕ) → j < min (count_of words n) 4
    → p (entry_at words n j) ≡ false
    → false ≡ list_all p (entries_of words n)
entries_fail p words n j low fails =
    sym (all_entries p _ n ∙ one_fails (λ i. p _) (min _ 4) j low fails)

pub entries_pass : (p : ℕ × ℕ → Bool) (words : List ℕ) (n m : ℕ) → m ≡ min (count_of words n) 4
    → list_all (λ j. p (entry_at words n j)) (numbers_below m) ≡ true
    → true ≡ list_all p (entries_of words n)
entries_pass p words n m is all = grind (arith, all_entries)
