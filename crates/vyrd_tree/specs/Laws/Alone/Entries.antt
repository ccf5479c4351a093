-- Proofs of laws that an impl in src/ names: no contract says what is defined here. Lists of
-- entries: what holds of a list that is put together from two, and how a new entry, a removed one
-- and a split leave it.
use Rattle.std.proofs.Common.{◌≡◌, ◌≢◌, ℕ, suc, ◌+◌, ◌<◌, ◌≤◌, ◌^◌, ◌⊎◌, inl, inr, Bool, true}
use Rattle.std.proofs.Common.{false}
use Rattle.std.proofs.Common.{cond, not, [], ◌∷◌, ◌++◌, Option, Some, None, refl, ap, ◌∙◌}
use Rattle.std.proofs.Common.{sym, arith}
use Rattle.std.specs.Prelude.{◌==◌, ◌&&◌, nat_lt, length, take, drop, position, count_by, flat_map}
use Rattle.std.specs.List.{AllByRecursion as Each, position_or_len}
use Rattle.std.proofs.lemmas.Bool.Decides.{nat_tests}
use Rattle.std.proofs.lemmas.List.Recursion.{is_count_by}
use Rattle.vyrd_base.specs.Tree.{entry_parts}
use Rattle.vyrd_base.specs.Amounts.{given}
use Rattle.vyrd_base.proofs.SumLaws.{given-append}
use Rattle.vyrd_base.proofs.TestLaws.{same_of, apart_of, is_same, isnt_same}
use Rattle.vyrd_tree.specs.Contents.{IsLeafEntry, Rising, Entries, gives}

pub each_more : (P Q : ℕ × ℕ → Type 0) → ((entry : ℕ × ℕ) → P entry → Q entry) → (xs : Entries)
    → Each P xs → Each Q xs
each_more P Q more [] all = tt
each_more P Q more (x ∷ xs) all = (more x all.0, each_more P Q more xs all.1)

pub each_both : (P Q R : ℕ × ℕ → Type 0) → ((entry : ℕ × ℕ) → P entry → Q entry → R entry)
    → (xs : Entries) → Each P xs → Each Q xs → Each R xs
each_both P Q R both [] p q = tt
each_both P Q R both (x ∷ xs) p q = (both x p.0 q.0, each_both P Q R both xs p.1 q.1)

pub each_join : (P : ℕ × ℕ → Type 0) (xs ys : Entries) → Each P xs → Each P ys → Each P (xs ++ ys)
each_join P [] ys all more = more
each_join P (x ∷ xs) ys all more = (all.0, each_join P xs ys all.1 more)

pub each_front : (P : ℕ × ℕ → Type 0) (xs ys : Entries) → Each P (xs ++ ys) → Each P xs
each_front P [] ys all = tt
each_front P (x ∷ xs) ys all = (all.0, each_front P xs ys all.1)

pub each_back : (P : ℕ × ℕ → Type 0) (xs ys : Entries) → Each P (xs ++ ys) → Each P ys
each_back P [] ys all = all
each_back P (x ∷ xs) ys all = each_back P xs ys all.1

-- every key of the first list is below every key of the second
abbrev pub AllBelow : Entries → Entries → Type 0
AllBelow xs ys = Each (λ x. Each (λ y. x.0 < y.0) ys) xs

pub rising_join : (xs ys : Entries) → Rising xs → Rising ys → AllBelow xs ys → Rising (xs ++ ys)
rising_join [] ys first second across = second
rising_join (x ∷ xs) ys first second across =
    (each_join (λ y. x.0 < y.0) xs ys first.0 across.0, rising_join xs ys first.1 second across.1)

pub rising_front : (xs ys : Entries) → Rising (xs ++ ys) → Rising xs
rising_front [] ys r = tt
rising_front (x ∷ xs) ys r = (each_front (λ y. x.0 < y.0) xs ys r.0, rising_front xs ys r.1)

pub rising_back : (xs ys : Entries) → Rising (xs ++ ys) → Rising ys
rising_back [] ys r = r
rising_back (x ∷ xs) ys r = rising_back xs ys r.1

pub rising_across : (xs ys : Entries) → Rising (xs ++ ys) → AllBelow xs ys
rising_across [] ys r = tt
rising_across (x ∷ xs) ys r = (each_back (λ y. x.0 < y.0) xs ys r.0, rising_across xs ys r.1)

pub gives-append : (q : ℕ) (xs ys : Entries) → gives q (xs ++ ys) ≡ gives q xs + gives q ys
gives-append q [] ys = omega arith
gives-append q (x ∷ xs) ys =
    omega (
      arith,
      given-append q (entry_parts x) (flat_map entry_parts (xs ++ ys)),
      given-append q (entry_parts x) (flat_map entry_parts xs),
      gives-append q xs ys,
    )

-- one entry of a leaf gives its key 2^32 and its value
pub parts_are : (entry : ℕ × ℕ) → IsLeafEntry entry
    → entry_parts entry ≡ (entry.0, 2 ^ 32 + entry.1) ∷ []
parts_are (key, value) leaf = ap (λ b. cond b ((key, 2 ^ 32 + value) ∷ []) ((2 ^ 33, 1) ∷ []))
    (low key value leaf.key_low leaf.value_low)
  where
    low : (k v : ℕ) → k < 2 ^ 32 → v < 2 ^ 32 → (nat_lt k (2 ^ 32) && nat_lt v (2 ^ 32)) ≡ true
    low k v a b = grind (arith, nat_tests)

pub entry_gives : (q : ℕ) (entry : ℕ × ℕ) → IsLeafEntry entry
    → given q (entry_parts entry) ≡ cond (q == entry.0) (2 ^ 32 + entry.1) 0
entry_gives q entry leaf =
    ap (given q) (parts_are entry leaf) ∙ plus_none (cond (q == entry.0) (2 ^ 32 + entry.1) 0)
  where
    plus_none : (n : ℕ) → n + 0 ≡ n
    plus_none n = omega arith

pub entry_gives_it : (q : ℕ) (entry : ℕ × ℕ) → IsLeafEntry entry → q ≡ entry.0
    → given q (entry_parts entry) ≡ 2 ^ 32 + entry.1
entry_gives_it q entry leaf e =
    entry_gives q entry leaf ∙ ap (λ b. cond b (2 ^ 32 + entry.1) 0) (is_same q entry.0 e)

pub entry_gives_none : (q : ℕ) (entry : ℕ × ℕ) → IsLeafEntry entry → entry.0 ≢ q
    → given q (entry_parts entry) ≡ 0
entry_gives_none q entry leaf apart = entry_gives q entry leaf
    ∙ ap (λ b. cond b (2 ^ 32 + entry.1) 0) (isnt_same q entry.0 (λ e. apart (sym e)))

-- entries without the key give it nothing
pub gives_none : (q : ℕ) (xs : Entries) → Each IsLeafEntry xs → Each (λ x. x.0 ≢ q) xs
    → gives q xs ≡ 0
gives_none q [] leaves apart = refl
gives_none q (x ∷ xs) leaves apart =
    omega (
      arith,
      given-append q (entry_parts x) (flat_map entry_parts xs),
      entry_gives_none q x leaves.0 apart.0,
      gives_none q xs leaves.1 apart.1,
    )

-- entries around one with the key
pub gives_one : (q : ℕ) (xs : Entries) (entry : ℕ × ℕ) (ys : Entries) → Rising (xs ++ entry ∷ ys)
    → Each IsLeafEntry (xs ++ entry ∷ ys) → entry.0 ≡ q
    → (gives q xs ≡ 0) × (gives q ys ≡ 0) × (gives q (entry ∷ ys) ≡ 2 ^ 32 + entry.1)
gives_one q xs entry ys rise leaves at =
    let back : Each IsLeafEntry (entry ∷ ys) = each_back IsLeafEntry xs (entry ∷ ys) leaves in
    let across : AllBelow xs (entry ∷ ys) = rising_across xs (entry ∷ ys) rise in
    let later : Rising (entry ∷ ys) = rising_back xs (entry ∷ ys) rise in
    let before : gives q xs ≡ 0 = gives_none q xs (each_front IsLeafEntry xs (entry ∷ ys) leaves)
    (each_more (λ x. Each (λ y. x.0 < y.0) (entry ∷ ys)) (λ x. x.0 ≢ q)
    (λ x less e. let lt = less.0 in omega arith) xs across) in
    let after : gives q ys ≡ 0 = gives_none q ys back.1
    (each_more (λ y. entry.0 < y.0) (λ y. y.0 ≢ q) (λ y less e. omega arith) ys later.0) in (
      before,
      after,
      given-append q (entry_parts entry) (flat_map entry_parts ys)
          ∙ plus (entry_gives_it q entry back.0 (sym at)) after,
    )
  where
    plus : {a b c : ℕ} → a ≡ c → b ≡ 0 → a + b ≡ c
    plus e f = omega arith

-- the front and the back of a list that is put together
pub take_front : (xs ys : Entries) → take (length xs) (xs ++ ys) ≡ xs
take_front [] ys = refl
take_front (x ∷ xs) ys = ap (λ zs. x ∷ zs) (take_front xs ys)

pub drop_front : (xs ys : Entries) → drop (length xs) (xs ++ ys) ≡ ys
drop_front [] ys = refl
drop_front (x ∷ xs) ys = drop_front xs ys

-- how many keys are below this one
abbrev pub lower_keys : ℕ → Entries → ℕ
lower_keys k [] = 0
lower_keys k (x ∷ xs) = cond (nat_lt x.0 k) (1 + lower_keys k xs) (lower_keys k xs)

pub place_is : (k : ℕ) (xs : Entries) → count_by (λ entry. nat_lt entry.0 k) xs ≡ lower_keys k xs
place_is k xs = sym (is_count_by (lower_keys k) (λ entry. nat_lt entry.0 k) refl (λ x xs. refl) xs)

-- Where a key that isn't there belongs: entries below it, and then entries above it.
pub record IsBetween (k : ℕ) (xs front back : Entries) : Type 0 where
  pub parts : xs ≡ front ++ back
  pub place : lower_keys k xs ≡ length front
  pub below : Each (λ x. x.0 < k) front
  pub above : Each (λ x. k < x.0) back

none_lower : (k : ℕ) (xs : Entries) → Each (λ x. k < x.0) xs → lower_keys k xs ≡ 0
none_lower k [] all = refl
none_lower k (x ∷ xs) all =
    ap (λ b. cond b (1 + lower_keys k xs) (lower_keys k xs)) (isnt_lower x.0 k all.0)
    ∙ none_lower k xs all.1
  where
    isnt_lower : (a b : ℕ) → b < a → nat_lt a b ≡ false
    isnt_lower a b lt = grind (arith, nat_tests)

pub between : (k : ℕ) (xs : Entries) → Rising xs → Each (λ x. x.0 ≢ k) xs
    → (front : Entries) × (back : Entries) × IsBetween k xs front back
between k [] rise apart = ([], [], record { parts = refl; place = refl; below = tt; above = tt })
between k (x ∷ xs) rise apart = by_key (less_or x.0 k) (between k xs rise.1 apart.1)
  where
    less_or : (a b : ℕ) → (a < b) ⊎ (b ≤ a)
    less_or a b = grind arith

    is_lower : (a b : ℕ) → a < b → nat_lt a b ≡ true
    is_lower a b lt = grind (arith, nat_tests)

    by_key : (x.0 < k) ⊎ (k ≤ x.0)
        → (front : Entries) × (back : Entries) × IsBetween k xs front back
        → (front : Entries) × (back : Entries) × IsBetween k (x ∷ xs) front back
    by_key (inl lt) (front, back, is) = (
      x ∷ front,
      back,
      record {
        parts = ap (λ ys. x ∷ ys) is.parts;
        place = ap (λ b. cond b (1 + lower_keys k xs) (lower_keys k xs)) (is_lower x.0 k lt)
            ∙ (let place = is.place in omega arith);
        below = (lt, is.below);
        above = is.above;
      },
    )
    by_key (inr le) rest =
        let apart' : x.0 ≢ k = apart.0 in
        let lt : k < x.0 = omega arith in
        let all : Each (λ y. k < y.0) (x ∷ xs) =
        (lt, each_more (λ y. x.0 < y.0) (λ y. k < y.0) (λ y less. omega arith) xs rise.0) in (
          [],
          x ∷ xs,
          record { parts = refl; place = none_lower k (x ∷ xs) all; below = tt; above = all },
        )

-- where a key stands: the first entry with it
pub record IsAround (k : ℕ) (xs front : Entries) (entry : ℕ × ℕ) (back : Entries) : Type 0 where
  pub parts : xs ≡ front ++ entry ∷ back
  pub key_is : entry.0 ≡ k

abbrev pub place_in : ℕ → Entries → Option ℕ
place_in k xs = position (λ entry. entry.0 == k) xs

-- the test of a key, by what it says for the rest of the list
abbrev place_after : ℕ → ℕ → ℕ → Bool → Option ℕ
place_after here len rest same = cond (nat_lt (cond (not same) (1 + rest) 0) (suc len))
    (Some (cond (not same) (1 + rest) 0)) None

pub found_around : (k : ℕ) (xs : Entries) (i : ℕ) → place_in k xs ≡ Some i
    → (front : Entries) × (entry : ℕ × ℕ) × (back : Entries) × (length front ≡ i)
    × IsAround k xs front entry back
found_around k [] i e = cc
found_around k (x ∷ xs) i e = by_key (x.0 == k) refl (found_around k xs)
  where
    rest : ℕ
    rest = position_or_len (λ entry. entry.0 == k) xs

    Around : Type 0
    Around = (front : Entries) × (entry : ℕ × ℕ) × (back : Entries) × (length front ≡ i)
        × IsAround k (x ∷ xs) front entry back

    earlier : (nat_lt (1 + rest) (suc (length xs)) ≡ true) → nat_lt rest (length xs) ≡ true
    earlier e = grind (arith, nat_tests)

    some_of : (b : Bool) (n : ℕ) → cond b (Some n) None ≡ Some i → (b ≡ true) × (n ≡ i)
    some_of true n e = (refl, cc)
    some_of false n e = cc

    by_key : (b : Bool) → (x.0 == k) ≡ b
        → ((j : ℕ) → place_in k xs ≡ Some j
        → (front : Entries) × (entry : ℕ × ℕ) × (back : Entries) × (length front ≡ j)
        × IsAround k xs front entry back)
        → Around
    by_key true at later =
        let here : 0 ≡ i = (some_of (nat_lt 0 (suc (length xs))) 0
        (sym (ap (place_after 0 (length xs) rest) at) ∙ e)).1 in
        ([], x, xs, here, record { parts = refl; key_is = same_of x.0 k at })
    by_key false at later =
        let there = some_of (nat_lt (1 + rest) (suc (length xs))) (1 + rest)
        (sym (ap (place_after 0 (length xs) rest) at) ∙ e) in
        let found = later rest (ap (λ b. cond b (Some rest) None) (earlier there.0)) in
        let len : length found.0 ≡ rest = found.3 in
        let is = found.4 in (
          x ∷ found.0,
          found.1,
          found.2,
          (let at_i = there.1 in omega arith),
          record { parts = ap (λ ys. x ∷ ys) is.parts; key_is = is.key_is },
        )

-- a key that isn't found belongs to no entry
pub not_found : (k : ℕ) (xs : Entries) → place_in k xs ≡ None → Each (λ x. x.0 ≢ k) xs
not_found k [] e = tt
not_found k (x ∷ xs) e = by_key (x.0 == k) refl (not_found k xs)
  where
    rest : ℕ
    rest = position_or_len (λ entry. entry.0 == k) xs

    none_of : (b : Bool) (n : ℕ) → ◌≡◌ {A = Option ℕ} (cond b (Some n) None) None → b ≡ false
    none_of true n e = cc
    none_of false n e = refl

    always : (n : ℕ) → nat_lt 0 (suc n) ≡ true
    always n = grind (arith, nat_tests)

    earlier : nat_lt (1 + rest) (suc (length xs)) ≡ false → nat_lt rest (length xs) ≡ false
    earlier e = grind (arith, nat_tests)

    by_key : (b : Bool) → (x.0 == k) ≡ b → (place_in k xs ≡ None → Each (λ x. x.0 ≢ k) xs)
        → (x.0 ≢ k) × Each (λ x. x.0 ≢ k) xs
    by_key true at later = let none =
        none_of (nat_lt 0 (suc (length xs))) 0 (sym (ap (place_after 0 (length xs) rest) at) ∙ e) in
        absurd (true_isnt (sym (always (length xs)) ∙ none))
      where
        true_isnt : true ≡ false → ⊥
        true_isnt e = cc
    by_key false at later =
        let none = none_of (nat_lt (1 + rest) (suc (length xs))) (1 + rest)
        (sym (ap (place_after 0 (length xs) rest) at) ∙ e) in
        (apart_of x.0 k at, later (ap (λ b. cond b (Some rest) None) (earlier none)))
