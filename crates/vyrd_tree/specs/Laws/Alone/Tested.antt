-- Proofs of laws that an impl in src/ names: no contract says what is defined here.
-- Words that are a tree by the tests of each node, and a tree in a memory, are the same.
use Rattle.std.proofs.Common.{◌≡◌, ◌≢◌, ℕ, zero, suc, ◌+◌, ◌-◌, ◌<◌, ◌≤◌, ◌^◌, ◌⊎◌, inl, inr, Bool}
use Rattle.std.proofs.Common.{true, false}
use Rattle.std.proofs.Common.{not, List, [], ◌∷◌, map, min, length, Option, Some, None, refl, ap}
use Rattle.std.proofs.Common.{◌∙◌, sym, subst, arith}
use Rattle.std.specs.Prelude.{◌==◌, ◌&&◌, ◌||◌, nat_lt, nat_le, slice_index, count_by, is_none}
use Rattle.std.specs.Option.{option_map_or}
use Rattle.std.specs.List.{list_all, AllByRecursion as Each}
use Rattle.std.proofs.lemmas.Bool.Decides.{nat_tests}
use Rattle.std.proofs.lemmas.List.Folds.{list_all-map}
use Rattle.std.proofs.lemmas.List.{length-map}
use Rattle.vyrd_base.specs.Places.{numbers_from}
use Rattle.vyrd_base.specs.Tree.{level_of, count_of, bound_of, right_of, entries_of}
use Rattle.vyrd_base.specs.Tree.{root_of, last_of, nodes, leads_to, left_of as find_left, is_first}
use Rattle.vyrd_base.specs.Tree.{low_of, is_linked, is_bounded, rises, keys_at, has_sound_keys}
use Rattle.vyrd_base.specs.Tree.{is_leaf_entry, is_child_entry, begins_with, has_sound_entries}
use Rattle.vyrd_base.specs.Tree.{is_only_first, is_sound_node, is_tree}
use Rattle.vyrd_base.proofs.TestLaws.{both_true, first_true, second_true, same_of, is_same}
use Rattle.vyrd_base.proofs.TestLaws.{isnt_same, below_of, is_below, is_at_most, at_most_of}
use Rattle.vyrd_base.proofs.PlaceLaws.{pass_all}
use Rattle.vyrd_memory.specs.Alone.{Memory}
use Rattle.vyrd_memory.proofs.NumberLists.{all_pass}
use Rattle.vyrd_tree.specs.Laws.Alone.Counts.{zero_or, le_or, passing, count_is, passing_two}
use Rattle.vyrd_tree.specs.Laws.Alone.Counts.{passing_one, passing_some, found_passes, none_passes}
use Rattle.vyrd_tree.specs.Laws.Alone.Counts.{found_is, none_is}
use Rattle.vyrd_tree.specs.Contents.{level_at, count_at, bound_at, key_at, value_at, Below, InRange}
use Rattle.vyrd_tree.specs.Contents.{Rising, BeginsAt, AreEntries, AreEntriesAt, IsLeafEntry}
use Rattle.vyrd_tree.specs.Contents.{IsChild, HasLeft, IsTree, entries_at, entries_from, Entries}
use Rattle.vyrd_tree.specs.Laws.Alone.Order.{left_of, one_cover}

-- tests of a list
pub all_says : {A : Type 0} (test : A → Bool) (P : A → Type 0) → ((x : A) → test x ≡ true → P x)
    → (xs : List A) → list_all test xs ≡ true → Each P xs
all_says test P says [] e = tt
all_says test P says (x ∷ xs) e = (
  says x (first_true (test x) (list_all test xs) e),
  all_says test P says xs (second_true (test x) (list_all test xs) e),
)

pub all_passes : {A : Type 0} (test : A → Bool) (P : A → Type 0) → ((x : A) → P x → test x ≡ true)
    → (xs : List A) → Each P xs
    → list_all test xs ≡ true
all_passes test P passes [] all = refl
all_passes test P passes (x ∷ xs) all =
    both_true (test x) (list_all test xs) (passes x all.0) (all_passes test P passes xs all.1)

abbrev key_of : ℕ × ℕ → ℕ
key_of entry = entry.0

rises_says : (xs : Entries) → rises (map key_of xs) ≡ true → Rising xs
rises_says [] e = tt
rises_says (x ∷ []) e = (tt, tt)
rises_says (x ∷ y ∷ xs) e =
    let lt : x.0 < y.0 =
    below_of x.0 y.0 (first_true (nat_lt x.0 y.0) (rises (map key_of (y ∷ xs))) e) in
    let later : Rising (y ∷ xs) =
    rises_says (y ∷ xs) (second_true (nat_lt x.0 y.0) (rises (map key_of (y ∷ xs))) e) in
    ((lt, above xs x.0 y.0 lt later.0), later)
  where
    above : (xs : Entries) (a b : ℕ) → a < b → Each (λ later. b < later.0) xs
        → Each (λ later. a < later.0) xs
    above [] a b lt all = tt
    above (x ∷ xs) a b lt all = ((let lower = all.0 in omega arith), above xs a b lt all.1)

rises_passes : (xs : Entries) → Rising xs → rises (map key_of xs) ≡ true
rises_passes [] r = refl
rises_passes (x ∷ []) r = refl
rises_passes (x ∷ y ∷ xs) r = both_true (nat_lt x.0 y.0) (rises (map key_of (y ∷ xs)))
    (is_below x.0 y.0 r.0.0) (rises_passes (y ∷ xs) r.1)

range_says : (low bound key : ℕ) → (nat_le low key && (bound == 0 || nat_lt key bound)) ≡ true
    → (low ≤ key) × Below key bound
range_says low bound key e = (
  at_most_of low key (first_true (nat_le low key) (bound == 0 || nat_lt key bound) e),
  below bound key
      (second_true (nat_le low key) (bound == 0 || nat_lt key bound) e),
)
  where
    below : (bound key : ℕ) → (bound == 0 || nat_lt key bound) ≡ true → bound ≢ 0 → key < bound
    below bound key e some = grind (arith, nat_tests)

range_passes : (low bound key : ℕ) → (low ≤ key) × Below key bound
    → (nat_le low key && (bound == 0 || nat_lt key bound)) ≡ true
range_passes low bound key is = both_true (nat_le low key) (bound == 0 || nat_lt key bound)
    (is_at_most low key is.0) (by_zero (zero_or bound))
  where
    none : (bound key : ℕ) → bound ≡ 0 → (bound == 0 || nat_lt key bound) ≡ true
    none bound key e = grind (arith, nat_tests)

    some : (bound key : ℕ) → key < bound → (bound == 0 || nat_lt key bound) ≡ true
    some bound key lt = grind (arith, nat_tests)

    by_zero : (bound ≡ 0) ⊎ (bound ≢ 0) → (bound == 0 || nat_lt key bound) ≡ true
    by_zero (inl e) = none bound key e
    by_zero (inr apart) = some bound key (is.1 apart)

leaf_says : (entry : ℕ × ℕ) → is_leaf_entry entry ≡ true → IsLeafEntry entry
leaf_says (key, value) e = record {
  key_low = below_of key (2 ^ 32) (first_true (nat_lt key (2 ^ 32)) (nat_lt value (2 ^ 32)) e);
  value_low = below_of value (2 ^ 32) (second_true (nat_lt key (2 ^ 32)) (nat_lt value (2 ^ 32)) e);
}

leaf_passes : (entry : ℕ × ℕ) → IsLeafEntry entry → is_leaf_entry entry ≡ true
leaf_passes (key, value) is =
    both_true (nat_lt key (2 ^ 32)) (nat_lt value (2 ^ 32)) (is_below key (2 ^ 32) is.key_low)
    (is_below value (2 ^ 32) is.value_low)

begins_says : (low : ℕ) (xs : Entries) → begins_with low (map key_of xs) ≡ true → BeginsAt low xs
begins_says low [] e = absurd (false_isnt e)
  where
    false_isnt : false ≡ true → ⊥
    false_isnt e = cc
begins_says low (x ∷ xs) e = same_of x.0 low e

begins_passes : (low : ℕ) (xs : Entries) → BeginsAt low xs → begins_with low (map key_of xs) ≡ true
begins_passes low [] e = absurd e
begins_passes low (x ∷ xs) e = is_same x.0 low e

-- how many entries a list over numbers has
pub length-numbers : (k n : ℕ) → length (numbers_from k n) ≡ n
length-numbers k zero = refl
length-numbers k (suc n) = ap suc (length-numbers (k + 1) n)

pub length-entries : (m : Memory) (n place many : ℕ) → length (entries_from m n place many) ≡ many
length-entries m n place many =
    length-map (numbers_from place many) (λ j. (key_at m n j, value_at m n j))
    ∙ length-numbers place many

-- the words' entries are those of the memory
pub entries_are : (words : List ℕ) (n : ℕ) → count_of words n ≤ 4
    → entries_of words n ≡ entries_at (slice_index words) n
entries_are words n few =
    ap (λ many. entries_from (slice_index words) n 0 many) (least (count_of words n) few)
  where
    least : (a : ℕ) → a ≤ 4 → min a 4 ≡ a
    least a le = omega arith

-- the link that is found, if one is
pub record LeftIs (last : ℕ) (words : List ℕ) (n : ℕ) (o : Option ℕ) : Type 0 where
  pub low_is : low_of last words n ≡ option_map_or (bound_of words) o 0
  pub first_is : is_first last words n ≡ is_none o
  pub found : (x : ℕ) → o ≡ Some x → (x ≤ last) × (right_of words x ≡ n) × (n ≢ 0)

left_is : (last : ℕ) (words : List ℕ) (n : ℕ) (o : Option ℕ) → find_left last words n ≡ o
    → LeftIs last words n o
left_is last words n o e = record {
  low_is = ap (λ o. option_map_or (bound_of words) o 0) e;
  first_is = ap is_none e;
  found = λ x is.
      let there = found_passes (leads_to words n) 0 (last + 1) x (e ∙ is) in (
        (let high = there.1 in omega arith),
        same_of (right_of words x) n (first_true (right_of words x == n) (not (n == 0)) there.2),
        some n (second_true (right_of words x == n) (not (n == 0)) there.2),
      );
}
  where
    some : (n : ℕ) → not (n == 0) ≡ true → n ≢ 0
    some n e = grind (arith, nat_tests)

module _ (size : ℕ) (words : List ℕ) (is : is_tree size words ≡ true) where
  abbrev m : Memory
  m = slice_index words

  abbrev last : ℕ
  last = last_of size words

  abbrev root : ℕ
  root = root_of size words

  abbrev low : ℕ → ℕ
  low n = low_of last words n

  abbrev each_node : ℕ → Bool
  each_node n = nat_le (level_of words n) (level_of words root) && is_sound_node last words n

  head_is : (nat_lt last size && nat_le root last && level_of words 0 == 0
      && is_first last words root)
      ≡ true
  head_is = first_true (nat_lt last size && nat_le root last && level_of words 0 == 0
      && is_first last words root)
      (list_all each_node (nodes last)) is

  all_are : list_all each_node (nodes last) ≡ true
  all_are = second_true (nat_lt last size && nat_le root last && level_of words 0 == 0
      && is_first last words root)
      (list_all each_node (nodes last)) is

  node_is : (n : ℕ) → n ≤ last → each_node n ≡ true
  node_is n used = all_pass each_node 0 (last + 1) all_are n (omega arith) (omega arith)

  sound_is : (n : ℕ) → n ≤ last → is_sound_node last words n ≡ true
  sound_is n used = second_true (nat_le (level_of words n) (level_of words root))
      (is_sound_node last words n) (node_is n used)

  first_four : (n : ℕ) → n ≤ last
      → (is_linked last words n && is_bounded last words n && has_sound_keys last words n
      && has_sound_entries last words n)
      ≡ true
  first_four n used = first_true (is_linked last words n && is_bounded last words n
      && has_sound_keys last words n && has_sound_entries last words n)
      (is_only_first last words n) (sound_is n used)

  first_three : (n : ℕ) → n ≤ last
      → (is_linked last words n && is_bounded last words n && has_sound_keys last words n) ≡ true
  first_three n used =
      first_true (is_linked last words n && is_bounded last words n && has_sound_keys last words n)
      (has_sound_entries last words n) (first_four n used)

  first_two : (n : ℕ) → n ≤ last → (is_linked last words n && is_bounded last words n) ≡ true
  first_two n used = first_true (is_linked last words n && is_bounded last words n)
      (has_sound_keys last words n) (first_three n used)

  linked_is : (n : ℕ) → n ≤ last → is_linked last words n ≡ true
  linked_is n used =
      first_true (is_linked last words n) (is_bounded last words n) (first_two n used)

  bounded_is : (n : ℕ) → n ≤ last → is_bounded last words n ≡ true
  bounded_is n used =
      second_true (is_linked last words n) (is_bounded last words n) (first_two n used)

  keys_are : (n : ℕ) → n ≤ last → has_sound_keys last words n ≡ true
  keys_are n used = second_true (is_linked last words n && is_bounded last words n)
      (has_sound_keys last words n) (first_three n used)

  sound_entries : (n : ℕ) → n ≤ last → has_sound_entries last words n ≡ true
  sound_entries n used =
      second_true (is_linked last words n && is_bounded last words n && has_sound_keys last words n)
      (has_sound_entries last words n)
      (first_four n used)

  only_is : (n : ℕ) → n ≤ last → is_only_first last words n ≡ true
  only_is n used = second_true (is_linked last words n && is_bounded last words n
      && has_sound_keys last words n && has_sound_entries last words n)
      (is_only_first last words n) (sound_is n used)

  ends_at : (bound right low : ℕ)
      → ((bound == 0 && right == 0) || (not (right == 0) && nat_lt low bound)) ≡ true → right ≡ 0
      → bound ≡ 0
  ends_at bound right low e none = grind (arith, nat_tests)

  goes_above : (bound right low : ℕ)
      → ((bound == 0 && right == 0) || (not (right == 0) && nat_lt low bound)) ≡ true → right ≢ 0
      → low < bound
  goes_above bound right low e some = grind (arith, nat_tests)

  above_is : (n : ℕ) → n ≤ last → right_of words n ≢ 0 → low n < bound_of words n
  above_is n used on =
      goes_above (bound_of words n) (right_of words n) (low n) (bounded_is n used) on

  link_is : (n : ℕ) → n ≤ last → right_of words n ≢ 0
      → (right_of words n ≤ last) × (level_of words (right_of words n) ≡ level_of words n)
  link_is n used on =
      let e : (nat_le (right_of words n) last
      && level_of words (right_of words n) == level_of words n)
      ≡ true =
      with_link (right_of words n) _ (second_true
      (nat_le (count_by (leads_to words n) (nodes last)) 1) _ (linked_is n used)) on in (
        at_most_of (right_of words n) last (first_true (nat_le (right_of words n) last)
            (level_of words (right_of words n) == level_of words n) e),
        same_of (level_of words (right_of words n)) (level_of words n) (second_true (nat_le
            (right_of words n) last) (level_of words (right_of words n) == level_of words n) e),
      )
    where
      with_link : (right : ℕ) (b : Bool) → (right == 0 || b) ≡ true → right ≢ 0 → b ≡ true
      with_link right b e some = ap (λ a. a || b) (sym (isnt_same right 0 some)) ∙ e

  leads_is : (n x : ℕ) → right_of words x ≡ n → n ≢ 0 → leads_to words n x ≡ true
  leads_is n x e some = both_true (right_of words x == n) (not (n == 0))
      (is_same (right_of words x) n e) (ap not (isnt_same n 0 some))

  one_left : (n x y : ℕ) → n ≤ last → x ≤ last → y ≤ last → leads_to words n x ≡ true
      → leads_to words n y ≡ true → x ≤ y
  one_left n x y used used_x used_y e f = by_order (le_or x y)
    where
      few : passing (leads_to words n) (numbers_from 0 (last + 1)) ≤ 1
      few = subst (λ c. c ≤ 1) (count_is (leads_to words n) (nodes last))
          (at_most_of (count_by (leads_to words n) (nodes last)) 1
          (first_true (nat_le (count_by (leads_to words n) (nodes last)) 1) _ (linked_is n used)))

      by_order : (x ≤ y) ⊎ (y < x) → x ≤ y
      by_order (inl le) = le
      by_order (inr lt) = let two =
          passing_two (leads_to words n) 0 (last + 1) y x (omega arith) lt (omega arith) f e in
          omega (arith, two, few)

  begins_is : (n : ℕ) → n ≤ last → right_of words n ≢ 0 → low (right_of words n) ≡ bound_of words n
  begins_is n used on = by_left (find_left last words next) refl
    where
      next : ℕ
      next = right_of words n

      here : leads_to words next n ≡ true
      here = leads_is next n refl on

      by_left : (o : Option ℕ) → find_left last words next ≡ o → low next ≡ bound_of words n
      by_left None e = let nothing =
          none_passes (leads_to words next) 0 (last + 1) e n (omega arith) (omega arith) in
          absurd (clash here nothing)
        where
          clash : {b : Bool} → b ≡ true → b ≡ false → ⊥
          clash e f = cc
      by_left (Some x) e =
          let l = left_is last words next (Some x) e in
          let found = l.found x refl in
          let there : leads_to words next x ≡ true = leads_is next x found.1 found.2 in
          let used_next : next ≤ last = (link_is n used on).0 in
          let same : x ≡ n = omega (
            arith,
            one_left next x n used_next found.0 used there here,
            one_left next n x used_next used found.0 here there,
          ) in
          l.low_is ∙ ap (bound_of words) same

  first_low : (n : ℕ) → n ≤ last → is_first last words n ≡ true → low n ≡ 0
  first_low n used e = by_left (find_left last words n) refl
    where
      by_left : (o : Option ℕ) → find_left last words n ≡ o → low n ≡ 0
      by_left None f = (left_is last words n None f).low_is
      by_left (Some x) f = absurd (clash (sym e ∙ (left_is last words n (Some x) f).first_is))
        where
          clash : true ≡ false → ⊥
          clash e = cc

  low_first : (n : ℕ) → n ≤ last → low n ≡ 0 → is_first last words n ≡ true
  low_first n used e = by_left (find_left last words n) refl
    where
      by_left : (o : Option ℕ) → find_left last words n ≡ o → is_first last words n ≡ true
      by_left None f = (left_is last words n None f).first_is
      by_left (Some x) f =
          let l = left_is last words n (Some x) f in
          let found = l.found x refl in
          let on : right_of words x ≢ 0 = (λ none. found.2 (sym found.1 ∙ none)) in
          absurd (let above = above_is x found.0 on in
          let bound = l.low_is in omega (arith, above, bound, e))

  has_left : (n : ℕ) → n ≤ last → low n ≢ 0 → HasLeft last m n
  has_left n used some = by_left (find_left last words n) refl
    where
      by_left : (o : Option ℕ) → find_left last words n ≡ o → HasLeft last m n
      by_left None f = absurd (some (left_is last words n None f).low_is)
      by_left (Some x) f = let found = (left_is last words n (Some x) f).found x refl in
          record { node = x; in_use = found.0; leads = found.1; some = found.2 }

  one_first_is : (a b : ℕ) → a ≤ last → b ≤ last → level_of words a ≡ level_of words b → low a ≡ 0
      → low b ≡ 0 → a ≡ b
  one_first_is a b used_a used_b same zero_a zero_b = omega (
    arith,
    half a b used_a used_b same zero_a zero_b,
    half b a used_b used_a (sym same) zero_b zero_a,
  )
    where
      half : (a b : ℕ) → a ≤ last → b ≤ last → level_of words a ≡ level_of words b → low a ≡ 0
          → low b ≡ 0 → a ≤ b
      half a b used_a used_b same zero_a zero_b = by_order (le_or a b)
        where
          test : ℕ → Bool
          test x = level_of words x == level_of words a && is_first last words x

          one : passing test (numbers_from 0 (last + 1)) ≡ 1
          one = sym (count_is test (nodes last))
              ∙ same_of (count_by test (nodes last)) 1 (only_is a used_a)

          by_order : (a ≤ b) ⊎ (b < a) → a ≤ b
          by_order (inl le) = le
          by_order (inr lt) =
              let two = passing_two test 0 (last + 1) b a (omega arith) lt (omega arith)
              (both_true (level_of words b == level_of words a) (is_first last words b) (is_same
              (level_of words b) (level_of words a) (sym same)) (low_first b used_b zero_b))
              (both_true (level_of words a == level_of words a) (is_first last words a)
              (is_same (level_of words a) (level_of words a) refl) (low_first a used_a zero_a)) in
              omega (arith, two, one)

  few_is : (n : ℕ) → n ≤ last → count_of words n ≤ 4
  few_is n used =
      at_most_of (count_of words n) 4 (first_true (nat_le (count_of words n) 4)
      (rises (keys_at words n))
      (first_true (nat_le (count_of words n) 4 && rises (keys_at words n)) _ (keys_are n used)))

  abbrev in_range_test : ℕ → ℕ → Bool
  in_range_test n key =
      nat_le (low n) key && (bound_of words n == 0 || nat_lt key (bound_of words n))

  by_level : (level : ℕ) (a b c d : Bool)
      → ((level == 0 && a) || (nat_lt 0 level && b && c && d)) ≡ true
      → (level ≡ 0 → a ≡ true) × (level ≢ 0 → (b ≡ true) × (c ≡ true) × (d ≡ true))
  by_level level a b c d e = by_zero (zero_or level)
    where
      at_zero : (level : ℕ) → level ≡ 0
          → ((level == 0 && a) || (nat_lt 0 level && b && c && d)) ≡ (a || false)
      at_zero level none = ap (λ level. (level == 0 && a) || (nat_lt 0 level && b && c && d)) none

      or_none : (a : Bool) → (a || false) ≡ true → a ≡ true
      or_none true e = refl
      or_none false e = e

      three : (b c d : Bool) → (b && c && d) ≡ true → (b ≡ true) × (c ≡ true) × (d ≡ true)
      three b c d e = (
        first_true b c (first_true (b && c) d e),
        second_true b c (first_true (b && c) d e),
        second_true (b && c) d e,
      )

      above : (level : ℕ) → level ≢ 0 → ((level == 0) ≡ false) × (nat_lt 0 level ≡ true)
      above level some = (isnt_same level 0 some, is_below 0 level (omega arith))

      by_zero : (level ≡ 0) ⊎ (level ≢ 0)
          → (level ≡ 0 → a ≡ true) × (level ≢ 0 → (b ≡ true) × (c ≡ true) × (d ≡ true))
      by_zero (inl none) =
          (λ none. or_none a (sym (at_zero level none) ∙ e), λ some. absurd (some none))
      by_zero (inr some) = (
        λ none. absurd (some none),
        λ some. let both = above level some in
            three b c d (sym (ap (λ t. (t && a) || (nat_lt 0 level && b && c && d)) both.0
            ∙ ap (λ t. (t && b && c && d)) both.1)
            ∙ e),
      )

  entries_is : (n : ℕ) → n ≤ last → AreEntriesAt last m low n
  entries_is n used =
      let few = few_is n used in
      let es = entries_of words n in
      let same : entries_of words n ≡ entries_at m n = entries_are words n few in
      let counted = first_true (nat_le (count_of words n) 4 && rises (keys_at words n))
      (list_all (in_range_test n) (keys_at words n)) (keys_are n used) in
      let ranged : list_all (in_range_test n) (map key_of (entries_of words n)) ≡ true =
      second_true (nat_le (count_of words n) 4 && rises (keys_at words n))
      (list_all (in_range_test n) (keys_at words n)) (keys_are n used) in
      let levels = by_level (level_of words n) (list_all is_leaf_entry (entries_of words n))
      (nat_le 2 (count_of words n))
      (begins_with (low n) (keys_at words n))
      (list_all (is_child_entry last words (level_of words n)) (entries_of words n))
      (sound_entries n used) in
      subst (AreEntries last (level_at m) low (level_at m n) (low n) (bound_at m n)) same
      (record {
        rise = rises_says es
            (second_true (nat_le (count_of words n) 4) (rises (keys_at words n)) counted);
        in_range = all_says (λ entry. in_range_test n entry.0) (InRange (low n) (bound_at m n))
            (λ entry e. range_says (low n) (bound_of words n) entry.0 e) es
            (sym (list_all-map (in_range_test n) key_of es) ∙ ranged);
        leaf = λ none. all_says is_leaf_entry IsLeafEntry leaf_says es (levels.0 none);
        inner = λ some. record {
          two = subst (λ c. 2 ≤ c) (sym (ap length same ∙ length-entries m n 0 (count_at m n)))
              (at_most_of 2 (count_of words n) (levels.1 some).0);
          first = begins_says (low n) es (levels.1 some).1;
          child = all_says (is_child_entry last words (level_of words n))
              (IsChild last (level_at m) low (level_at m n))
              (child_says (level_of words n)) es
              (levels.1 some).2;
        };
      })
    where
      child_says : (level : ℕ) (entry : ℕ × ℕ) → is_child_entry last words level entry ≡ true
          → IsChild last (level_at m) low level entry
      child_says level (key, child) e =
          let two = first_true (nat_le child last && level_of words child + 1 == level)
          (low child == key) e in
          record {
            in_use = at_most_of child last
                (first_true (nat_le child last) (level_of words child + 1 == level) two);
            lower = same_of (level_of words child + 1) level
                (second_true (nat_le child last) (level_of words child + 1 == level) two);
            key_is = same_of (low child) key (second_true
                (nat_le child last && level_of words child + 1 == level) (low child == key) e);
          }

  head_three : (nat_lt last size && nat_le root last && level_of words 0 == 0) ≡ true
  head_three = first_true (nat_lt last size && nat_le root last && level_of words 0 == 0)
      (is_first last words root) head_is

  head_two : (nat_lt last size && nat_le root last) ≡ true
  head_two = first_true (nat_lt last size && nat_le root last) (level_of words 0 == 0) head_three

  root_used : root ≤ last
  root_used = at_most_of root last (second_true (nat_lt last size) (nat_le root last) head_two)

  -- words that pass the tests are a tree
  pub tree_of_words : IsTree size (slice_index words) (low_of (last_of size words) words)
  tree_of_words = record {
    last_low = below_of last size (first_true (nat_lt last size) (nat_le root last) head_two);
    root_in_use = root_used;
    root_first = first_low root root_used
        (second_true (nat_lt last size && nat_le root last && level_of words 0 == 0)
        (is_first last words root) head_is);
    zero_leaf = same_of (level_of words 0) 0
        (second_true (nat_lt last size && nat_le root last) (level_of words 0 == 0) head_three);
    highest = λ n used. at_most_of (level_of words n) (level_of words root)
        (first_true (nat_le (level_of words n) (level_of words root)) (is_sound_node last words n)
        (node_is n used));
    ends = λ n used none. ends_at (bound_of words n) (right_of words n) (low n) (bounded_is n used)
        none;
    link = λ n used on. record {
      in_use = (link_is n used on).0;
      same_level = (link_is n used on).1;
      begins = begins_is n used on;
      above = above_is n used on;
    };
    left = has_left;
    one_first = one_first_is;
    few = few_is;
    entries = entries_is;
  }

-- the other way round
module _ (size : ℕ) (words : List ℕ) (low : ℕ → ℕ) (t : IsTree size (slice_index words) low) where
  abbrev m' : Memory
  m' = slice_index words

  abbrev last' : ℕ
  last' = last_of size words

  abbrev root' : ℕ
  root' = root_of size words

  -- one right link leads to a node at most
  one_link : (n x y : ℕ) → x ≤ last' → y ≤ last' → right_of words x ≡ n → right_of words y ≡ n
      → n ≢ 0 → x ≡ y
  one_link n x y used_x used_y e f some =
      let link_x = t.link x used_x (λ none. some (sym e ∙ none)) in
      let link_y = t.link y used_y (λ none. some (sym f ∙ none)) in
      let bound_x : bound_of words x ≡ low n = sym link_x.begins ∙ ap low e in
      let bound_y : bound_of words y ≡ low n = sym link_y.begins ∙ ap low f in
      let above_x : low x < bound_of words x = link_x.above in
      let above_y : low y < bound_of words y = link_y.above in
      one_cover size m' low t x y (low n - 1) used_x used_y
      (sym link_x.same_level ∙ ap (level_of words) (e ∙ sym f) ∙ link_y.same_level)
      (record { from = omega arith; to = λ some. omega arith })
      (record { from = omega arith; to = λ some. omega arith })

  leads_passes : (n x : ℕ) → right_of words x ≡ n → n ≢ 0 → leads_to words n x ≡ true
  leads_passes n x e some = both_true (right_of words x == n) (not (n == 0))
      (is_same (right_of words x) n e) (ap not (isnt_same n 0 some))

  leads_says : (n x : ℕ) → leads_to words n x ≡ true → (right_of words x ≡ n) × (n ≢ 0)
  leads_says n x e = (
    same_of (right_of words x) n (first_true (right_of words x == n) (not (n == 0)) e),
    some n (second_true (right_of words x == n) (not (n == 0)) e),
  )
    where
      some : (n : ℕ) → not (n == 0) ≡ true → n ≢ 0
      some n e = grind (arith, nat_tests)

  -- the left neighbour is found
  found_left : (n : ℕ) → n ≤ last'
      → (o : Option ℕ) × (find_left last' words n ≡ o) × (is_none o ≡ (low n == 0))
      × (option_map_or (bound_of words) o 0 ≡ low n)
  found_left n used = by_low (zero_or (low n))
    where
      by_low : (low n ≡ 0) ⊎ (low n ≢ 0)
          → (o : Option ℕ) × (find_left last' words n ≡ o) × (is_none o ≡ (low n == 0))
          × (option_map_or (bound_of words) o 0 ≡ low n)
      by_low (inl none) = (
        None,
        none_is (leads_to words n) 0 (last' + 1) no_link,
        sym (is_same (low n) 0 none),
        sym none,
      )
        where
          no_link : (i : ℕ) → 0 ≤ i → i < 0 + (last' + 1) → leads_to words n i ≡ true → ⊥
          no_link i from to e =
              let says = leads_says n i e in
              let link = t.link i (omega arith) (λ zero. says.1 (sym says.0 ∙ zero)) in
              let begins : bound_of words i ≡ low n = sym link.begins ∙ ap low says.0 in
              let above : low i < bound_of words i = link.above in
              omega arith
      by_low (inr some) =
          let l = left_of size m' low t n used some in
          let is = l.1 in
          let in_use : l.0 ≤ last' = is.in_use in (
            Some l.0,
            found_is (leads_to words n) 0 (last' + 1) l.0 (omega arith) (omega arith)
                (leads_passes n l.0 is.leads is.some)
                (λ j from to e. let says = leads_says n j e in
                one_link n j l.0 (omega arith) in_use says.0 is.leads says.1),
            sym (isnt_same (low n) 0 some),
            is.bound_is,
          )

  pub low_is : (n : ℕ) → n ≤ last' → low_of last' words n ≡ low n
  low_is n used = let found = found_left n used in
      ap (λ o. option_map_or (bound_of words) o 0) found.1 ∙ found.3

  first_is : (n : ℕ) → n ≤ last' → is_first last' words n ≡ (low n == 0)
  first_is n used = let found = found_left n used in ap is_none found.1 ∙ found.2

  linked_passes : (n : ℕ) → n ≤ last' → is_linked last' words n ≡ true
  linked_passes n used =
      both_true (nat_le (count_by (leads_to words n) (nodes last')) 1)
      (right_of words n == 0 || nat_le (right_of words n) last' && level_of words
      (right_of words n) == level_of words n)
      (is_at_most (count_by (leads_to words n) (nodes last')) 1
      (subst (λ c. c ≤ 1) (sym (count_is (leads_to words n) (nodes last')))
      (passing_one (leads_to words n) 0 (last' + 1)
      (λ i j from_i to_i from_j to_j e f. let says = leads_says n i e in
      one_link n i j (omega arith) (omega arith) says.0 (leads_says n j f).0 says.1))))
      (by_right (zero_or (right_of words n)))
    where
      or_first : (a b : Bool) → a ≡ true → (a || b) ≡ true
      or_first true b e = refl
      or_first false b e = absurd (clash e)
        where
          clash : false ≡ true → ⊥
          clash e = cc

      or_second : (a b : Bool) → b ≡ true → (a || b) ≡ true
      or_second true b e = refl
      or_second false b e = e

      by_right : (right_of words n ≡ 0) ⊎ (right_of words n ≢ 0)
          → (right_of words n == 0 || nat_le (right_of words n) last'
          && level_of words (right_of words n) == level_of words n)
          ≡ true
      by_right (inl none) = or_first (right_of words n == 0) (nat_le (right_of words n) last'
          && level_of words (right_of words n) == level_of words n)
          (is_same (right_of words n) 0 none)
      by_right (inr on) =
          let link = t.link n used on in
          or_second (right_of words n == 0)
          (nat_le (right_of words n) last' && level_of words (right_of words n) == level_of words n)
          (both_true (nat_le (right_of words n) last')
          (level_of words (right_of words n) == level_of words n)
          (is_at_most (right_of words n) last' link.in_use)
          (is_same (level_of words (right_of words n)) (level_of words n) link.same_level))

  bounded_passes : (n : ℕ) → n ≤ last' → is_bounded last' words n ≡ true
  bounded_passes n used = by_right (zero_or (right_of words n))
    where
      ends_so : (bound right low : ℕ) → right ≡ 0 → bound ≡ 0
          → ((bound == 0 && right == 0) || (not (right == 0) && nat_lt low bound)) ≡ true
      ends_so bound right low e f = grind (arith, nat_tests)

      goes_so : (bound right low : ℕ) → right ≢ 0 → low < bound
          → ((bound == 0 && right == 0) || (not (right == 0) && nat_lt low bound)) ≡ true
      goes_so bound right low e f = grind (arith, nat_tests)

      by_right : (right_of words n ≡ 0) ⊎ (right_of words n ≢ 0) → is_bounded last' words n ≡ true
      by_right (inl none) = ends_so (bound_of words n) (right_of words n) (low_of last' words n)
          none (t.ends n used none)
      by_right (inr on) =
          let link = t.link n used on in
          let above : low n < bound_of words n = link.above in
          let same = low_is n used in
          goes_so (bound_of words n) (right_of words n) (low_of last' words n) on
          (omega (arith, same, above))

  keys_pass : (n : ℕ) → n ≤ last' → has_sound_keys last' words n ≡ true
  keys_pass n used =
      let es = t.entries n used in
      let few = t.few n used in
      let same : entries_of words n ≡ entries_at m' n = entries_are words n few in
      both_true (nat_le (count_of words n) 4 && rises (keys_at words n))
      (list_all (range_test (low_of last' words n)) (keys_at words n))
      (both_true (nat_le (count_of words n) 4) (rises (keys_at words n)) (is_at_most (count_of words
      n) 4 few) (ap (λ xs. rises (map key_of xs)) same ∙ rises_passes (entries_at m' n) es.rise))
      (ap (λ k. list_all (range_test k) (keys_at words n)) (low_is n used)
      ∙ ap (λ xs. list_all (range_test (low n)) (map key_of xs)) same
      ∙ list_all-map (range_test (low n)) key_of (entries_at m' n)
      ∙ all_passes (λ entry. range_test (low n) entry.0) (InRange (low n) (bound_at m' n))
      (λ entry is. range_passes (low n) (bound_of words n) entry.0 is) (entries_at m' n)
      es.in_range)
    where
      range_test : ℕ → ℕ → Bool
      range_test low key =
          nat_le low key && (bound_of words n == 0 || nat_lt key (bound_of words n))

  entries_pass : (n : ℕ) → n ≤ last' → has_sound_entries last' words n ≡ true
  entries_pass n used = by_level (zero_or (level_of words n))
    where
      same : entries_of words n ≡ entries_at m' n
      same = entries_are words n (t.few n used)

      es : AreEntriesAt last' m' low n
      es = t.entries n used

      leaf_so : (level : ℕ) (a b : Bool) → level ≡ 0 → a ≡ true → ((level == 0 && a) || b) ≡ true
      leaf_so level a b none e = ap (λ level. (level == 0 && a) || b) none ∙ ap (λ a. a || b) e

      inner_so : (level : ℕ) (a b c d : Bool) → level ≢ 0 → b ≡ true → c ≡ true → d ≡ true
          → ((level == 0 && a) || (nat_lt 0 level && b && c && d)) ≡ true
      inner_so level a b c d some e f g =
          ap (λ t. (t && a) || (nat_lt 0 level && b && c && d)) (isnt_same level 0 some)
          ∙ both_true (nat_lt 0 level && b && c) d
          (both_true (nat_lt 0 level && b) c
          (both_true (nat_lt 0 level) b (is_below 0 level (omega arith)) e) f) g

      child_passes : (level : ℕ) (entry : ℕ × ℕ) → IsChild last' (level_at m') low level entry
          → is_child_entry last' words level entry ≡ true
      child_passes level (key, child) is =
          both_true (nat_le child last' && level_of words child + 1 == level)
          (low_of last' words child == key)
          (both_true (nat_le child last') (level_of words child + 1 == level)
          (is_at_most child last' is.in_use) (is_same (level_of words child + 1) level is.lower))
          (is_same (low_of last' words child) key (low_is child is.in_use ∙ is.key_is))

      by_level : (level_of words n ≡ 0) ⊎ (level_of words n ≢ 0)
          → has_sound_entries last' words n ≡ true
      by_level (inl none) =
          leaf_so (level_of words n) (list_all is_leaf_entry (entries_of words n))
          (nat_lt 0 (level_of words n) && nat_le 2 (count_of words n)
          && begins_with (low_of last' words n) (keys_at words n)
          && list_all (is_child_entry last' words (level_of words n)) (entries_of words n)) none
          (ap (list_all is_leaf_entry) same
          ∙ all_passes is_leaf_entry IsLeafEntry leaf_passes (entries_at m' n) (es.leaf none))
      by_level (inr some) =
          let in_ = es.inner some in
          inner_so (level_of words n) (list_all is_leaf_entry (entries_of words n))
          (nat_le 2 (count_of words n)) (begins_with (low_of last' words n) (keys_at words n))
          (list_all (is_child_entry last' words (level_of words n)) (entries_of words n)) some
          (is_at_most 2 (count_of words n)
          (subst (λ c. 2 ≤ c) (length-entries m' n 0 (count_at m' n)) in_.two))
          (ap (λ k. begins_with k (keys_at words n)) (low_is n used)
          ∙ ap (λ xs. begins_with (low n) (map key_of xs)) same
          ∙ begins_passes (low n) (entries_at m' n) in_.first)
          (ap (list_all (is_child_entry last' words (level_of words n))) same
          ∙ all_passes (is_child_entry last' words (level_of words n)) (IsChild last' (level_at m')
          low (level_at m' n)) (child_passes (level_of words n)) (entries_at m' n) in_.child)

  -- each level has a first node, and only one
  first_on_level : (fuel n : ℕ) → low n < fuel → n ≤ last'
      → (f : ℕ) × (f ≤ last') × (level_of words f ≡ level_of words n) × (low f ≡ 0)
  first_on_level zero n more used = absurd (omega (arith, more))
  first_on_level (suc fuel) n more used = by_low (zero_or (low n)) (first_on_level fuel)
    where
      by_low : (low n ≡ 0) ⊎ (low n ≢ 0)
          → ((n : ℕ) → low n < fuel → n ≤ last'
          → (f : ℕ) × (f ≤ last') × (level_of words f ≡ level_of words n) × (low f ≡ 0))
          → (f : ℕ) × (f ≤ last') × (level_of words f ≡ level_of words n) × (low f ≡ 0)
      by_low (inl none) earlier = (n, used, refl, none)
      by_low (inr some) earlier =
          let l = left_of size m' low t n used some in
          let is = l.1 in
          let lower : low l.0 < low n = is.lower in
          let found = earlier l.0 (omega arith) is.in_use in
          (found.0, found.1, found.2 ∙ is.same_level, found.3)

  only_passes : (n : ℕ) → n ≤ last' → is_only_first last' words n ≡ true
  only_passes n used =
      let found = first_on_level (suc (low n)) n (omega arith) used in
      let used_f : found.0 ≤ last' = found.1 in
      let some : 1 ≤ passing test (numbers_from 0 (last' + 1)) =
      passing_some test 0 (last' + 1) found.0 (omega arith) (omega arith)
      (both_true (level_of words found.0 == level_of words n) (is_first last' words found.0)
      (is_same (level_of words found.0) (level_of words n) found.2)
      (first_is found.0 found.1 ∙ is_same (low found.0) 0 found.3)) in
      let one : passing test (numbers_from 0 (last' + 1)) ≤ 1 = passing_one test 0 (last' + 1)
      (λ i j from_i to_i from_j to_j e f. same i j (omega arith) (omega arith) e f) in
      is_same (count_by test (nodes last')) 1 (count_is test (nodes last') ∙ omega arith)
    where
      test : ℕ → Bool
      test x = level_of words x == level_of words n && is_first last' words x

      same : (i j : ℕ) → i ≤ last' → j ≤ last' → test i ≡ true → test j ≡ true → i ≡ j
      same i j used_i used_j e f =
          t.one_first i j used_i used_j
          (same_of (level_of words i) (level_of words n)
          (first_true (level_of words i == level_of words n) (is_first last' words i) e)
          ∙ sym (same_of (level_of words j) (level_of words n)
          (first_true (level_of words j == level_of words n) (is_first last' words j) f)))
          (same_of (low i) 0 (sym (first_is i used_i)
          ∙ second_true (level_of words i == level_of words n) (is_first last' words i) e))
          (same_of (low j) 0 (sym (first_is j used_j)
          ∙ second_true (level_of words j == level_of words n) (is_first last' words j) f))

  -- a tree passes the tests
  pub words_of_tree : is_tree size words ≡ true
  words_of_tree =
      both_true
      (nat_lt last' size && nat_le root' last' && level_of words 0 == 0
      && is_first last' words root') (list_all each (nodes last'))
      (both_true (nat_lt last' size && nat_le root' last' && level_of words 0 == 0)
      (is_first last' words root')
      (both_true (nat_lt last' size && nat_le root' last') (level_of words 0 == 0)
      (both_true (nat_lt last' size) (nat_le root' last') (is_below last' size t.last_low)
      (is_at_most root' last' t.root_in_use)) (is_same (level_of words 0) 0 t.zero_leaf))
      (first_is root' t.root_in_use ∙ is_same (low root') 0 t.root_first))
      (pass_all each 0 (last' + 1) (λ n from to. node_passes n (omega arith)))
    where
      each : ℕ → Bool
      each n = nat_le (level_of words n) (level_of words root') && is_sound_node last' words n

      node_passes : (n : ℕ) → n ≤ last' → each n ≡ true
      node_passes n used =
          both_true (nat_le (level_of words n) (level_of words root')) (is_sound_node last' words n)
          (is_at_most (level_of words n) (level_of words root') (t.highest n used))
          (both_true
          (is_linked last' words n && is_bounded last' words n && has_sound_keys last' words n
          && has_sound_entries last' words n) (is_only_first last' words n)
          (both_true
          (is_linked last' words n && is_bounded last' words n && has_sound_keys last' words n)
          (has_sound_entries last' words n)
          (both_true (is_linked last' words n && is_bounded last' words n)
          (has_sound_keys last' words n)
          (both_true (is_linked last' words n) (is_bounded last' words n) (linked_passes n used)
          (bounded_passes n used)) (keys_pass n used)) (entries_pass n used)) (only_passes n used))
