-- The keys at which two sides differ: they are told by which keys they are, since they rise.
use Rattle.vyrd_follow.proofs.Prelude
use Prelude.{◌≡◌, ℕ, ◌+◌, ◌<◌, ◌≤◌, Bool, true, false, cond, not, ◌&&◌, ◌||◌, T, List, [], ◌∷◌}
use Prelude.{◌++◌, refl, ap, ◌∙◌, sym, subst, arith, ◌==◌, ◌≢◌, nat_lt, filter, nat_cmp, is_lt}
use Prelude.{below_all, is_sorted, AllByRecursion, or_left, or_right, nat_tests, Amounts, IsAmounts}
use Prelude.{amount_of, keys_of, collected, given, with_amount, amount_of-with_amount, same_amounts}
use Prelude.{first_of_and, second_of_and, is_in, amount_of-collected, IsAmounts-collected}
use Prelude.{given-append, same_of, is_same, same_number, isnt_same, flipped, below_of}
use Prelude.{not_below_of, differ_at, keys_of_both, differences}

-- each of these is above the key
abbrev pub AllAbove : ℕ → List ℕ → Type 0
AllAbove k ks = AllByRecursion (λ q. k < q) ks

-- each key is below those after it
abbrev pub Rise : List ℕ → Type 0
Rise [] = Unit {0}
Rise (k ∷ ks) = AllAbove k ks × Rise ks

-- ---- keys that rise

-- no key at or below one that stands before them is among them
pub not_among : (k q : ℕ) (ks : List ℕ) → AllAbove k ks → q ≤ k → is_in q ks ≡ false
not_among k q [] above low = refl
not_among k q (x ∷ ks) above low = grind (arith, not_among k q ks above.1 low, isnt_same)

pub first_among : (k : ℕ) (ks : List ℕ) → is_in k (k ∷ ks) ≡ true
first_among k ks = or_left (k == k) (is_in k ks) (same_number k)

below_first : (k q : ℕ) (ks : List ℕ) → Rise (k ∷ ks) → q < k → is_in q (k ∷ ks) ≡ false
below_first k q ks rise low = grind (arith, isnt_same, not_among)

pub true_false : (b : Bool) → b ≡ true → b ≡ false → {A : Type 0} → A
true_false b e f = search arith

module _ (k l : ℕ) (ks ls : List ℕ) (rise : Rise (k ∷ ks)) (rises : Rise (l ∷ ls))
    (same : (q : ℕ) → is_in q (k ∷ ks) ≡ is_in q (l ∷ ls)) where
  same_first : k ≡ l
  same_first = by_order (nat_lt k l) (nat_lt l k) refl refl
    where
      by_order : (a b : Bool) → nat_lt k l ≡ a → nat_lt l k ≡ b → k ≡ l
      by_order true b e f = true_false (is_in k (l ∷ ls)) (sym (same k) ∙ first_among k ks)
          (below_first l k ls rises (below_of k l e))
      by_order false true e f = true_false (is_in l (k ∷ ks)) (same l ∙ first_among l ls)
          (below_first k l ks rise (below_of l k f))
      by_order false false e f = omega (arith, not_below_of k l e, not_below_of l k f)

  same_rest : (q : ℕ) → is_in q ks ≡ is_in q ls
  same_rest q = search (same_of, not_among, same_first, arith)

-- keys that rise are told by which they are
pub same_rising : (ks ls : List ℕ) → Rise ks → Rise ls → ((q : ℕ) → is_in q ks ≡ is_in q ls)
    → ks ≡ ls
same_rising [] [] rise rises same = refl
same_rising [] (l ∷ ls) rise rises same = true_false (is_in l (l ∷ ls)) (first_among l ls)
    (sym (same l))
same_rising (k ∷ ks) [] rise rises same = true_false (is_in k (k ∷ ks)) (first_among k ks) (same k)
same_rising (k ∷ ks) (l ∷ ls) rise rises same =
    ap (λ x. x ∷ ks) (same_first k l ks ls rise rises same)
    ∙ ap (λ xs. l ∷ xs)
    (same_rising ks ls rise.1 rises.1 (same_rest k l ks ls rise rises same))

-- ---- keys that are kept

pub among_filtered : (p : ℕ → Bool) (q : ℕ) (xs : List ℕ)
    → is_in q (filter p xs) ≡ (is_in q xs && p q)
among_filtered p q [] = refl
among_filtered p q (x ∷ xs) = by_test (p x) (x == q) refl refl (among_filtered p q xs)
  where
    by_test : (b same : Bool) → p x ≡ b → (x == q) ≡ same
        → is_in q (filter p xs) ≡ (is_in q xs && p q)
        → is_in q (cond b (x ∷ filter p xs) (filter p xs)) ≡ ((same || is_in q xs) && p q)
    by_test true true passes is rest = search (same_of, arith)
    by_test true false passes is rest = ap (λ b. b || is_in q (filter p xs)) is ∙ rest
    by_test false true fails is rest = cc (same_of x q is, none (is_in q xs))
      where
        none : (b : Bool) → (b && false) ≡ false
        none b = search arith
    by_test false false fails is rest = rest

above_filtered : (p : ℕ → Bool) (k : ℕ) (ks : List ℕ) → AllAbove k ks → AllAbove k (filter p ks)
above_filtered p k [] above = tt
above_filtered p k (x ∷ ks) above = elim (p x) as (λ b. AllAbove k (cond b (x ∷ filter p ks)
    (filter p ks))) [
      | true ↦ (above.0, above_filtered p k ks above.1)
      | false ↦ above_filtered p k ks above.1
    ]

pub rise_filtered : (p : ℕ → Bool) (ks : List ℕ) → Rise ks → Rise (filter p ks)
rise_filtered p [] rise = tt
rise_filtered p (k ∷ ks) rise = elim (p k) as (λ b. Rise (cond b (k ∷ filter p ks)
    (filter p ks))) [
      | true ↦ (above_filtered p k ks rise.0, rise_filtered p ks rise.1)
      | false ↦ rise_filtered p ks rise.1
    ]

-- ---- keys of amounts

lesser : (x k : ℕ) → T (is_lt (nat_cmp x k)) → x < k
lesser x k h = grind (arith, nat_tests)

keys_above : (k : ℕ) (s : Amounts) → T (below_all nat_cmp k s) → AllAbove k (keys_of s)
keys_above k [] below = tt
keys_above k (e ∷ s) below =
    (lesser k _ (first_of_and _ _ below), keys_above k s (second_of_and (is_lt _) _ below))

pub keys_rise : (s : Amounts) → T (is_sorted nat_cmp s) → Rise (keys_of s)
keys_rise [] rising = tt
keys_rise (e ∷ s) rising = (
  keys_above e.0 s (first_of_and _ _ rising),
  keys_rise s (second_of_and (below_all nat_cmp e.0 s) _ rising),
)

pub amount_of-cons : (x : ℕ × ℕ) (xs : Amounts) (q : ℕ)
    → amount_of (x ∷ xs) q ≡ cond (q == x.0) x.1 (amount_of xs q)
amount_of-cons x xs q = grind arith

-- a key whose amount isn't 0 is among the keys
pub key_among : (s : Amounts) (q : ℕ) → amount_of s q ≢ 0 → is_in q (keys_of s) ≡ true
key_among [] q some = absurd (some refl)
key_among (e ∷ s) q some =
    by_test (q == e.0) refl (λ zero'. some (amount_of-cons e s q ∙ zero')) (key_among s q)
  where
    by_test : (b : Bool) → (q == e.0) ≡ b → cond b e.1 (amount_of s q) ≢ 0
        → (amount_of s q ≢ 0 → is_in q (keys_of s) ≡ true)
        → (e.0 == q || is_in q (keys_of s)) ≡ true
    by_test true is here rest = search (is_same, same_of, arith)
    by_test false is there rest = or_right (e.0 == q) _ (rest there)

-- an amount is part of all that the pairs give
pub amount_given : (s : Amounts) (q : ℕ) → amount_of s q ≤ given q s
amount_given [] q = omega arith
amount_given (x ∷ xs) q =
    omega (arith, amount_of-cons x xs q, by_test (q == x.0) (amount_given xs q))
  where
    by_test : (b : Bool) → amount_of xs q ≤ given q xs
        → cond b x.1 (amount_of xs q) ≤ cond b x.1 0 + given q xs
    by_test b rest = search arith

-- ---- keys at which two sides differ

pub differ_among : (a b : Amounts) (q : ℕ) → differ_at a b q ≡ true
    → is_in q (keys_of_both a b) ≡ true
differ_among a b q differ = key_among _ q (λ none.
    let all : given q (a ++ b) ≡ 0 = sym (amount_of-collected _ q) ∙ none in
    let both = given-append q a b in
    let ours : amount_of a q ≡ 0 = omega (arith, all, both, amount_given a q) in
    let theirs : amount_of b q ≡ 0 = omega (arith, all, both, amount_given b q) in
    true_false (differ_at a b q) differ (ap not (is_same _ _ (ours ∙ sym theirs))))

-- they are those that differ
pub among_differences : (a b : Amounts) (q : ℕ) → is_in q (differences a b) ≡ differ_at a b q
among_differences a b q = search (among_filtered, differ_at, differ_among, arith)

-- and rise
pub differences_rise : (a b : Amounts) → Rise (differences a b)
differences_rise a b = search (rise_filtered, keys_rise, collected, IsAmounts-collected, arith)

-- Keys that rise and are exactly those at which the sides differ are the differences.
pub differences_are : (a b : Amounts) (ks : List ℕ) → Rise ks
    → ((q : ℕ) → is_in q ks ≡ differ_at a b q) → ks ≡ differences a b
differences_are a b ks rise same = search (same_rising, differences_rise, among_differences, arith)

-- So are those that differ of keys that rise, if there is each key that differs.
pub differences_of : (a b : Amounts) (ks : List ℕ) → Rise ks
    → ((q : ℕ) → is_in q ks ≡ false → amount_of a q ≡ amount_of b q)
    → filter (differ_at a b) ks ≡ differences a b
differences_of a b ks rise others = search (differences_are, rise_filtered, among_filtered, arith)

-- sides that don't differ at any key
pub no_differences : (a b : Amounts) → IsAmounts a → IsAmounts b → differences a b ≡ [] → a ≡ b
no_differences a b is it none = same_amounts a b is it
    (λ q. agree q (amount_of a q == amount_of b q) refl
    (sym (among_differences a b q) ∙ ap (is_in q) none))
  where
    agree : (q : ℕ) (same : Bool) → (amount_of a q == amount_of b q) ≡ same
        → differ_at a b q ≡ false → amount_of a q ≡ amount_of b q
    agree q true is none = same_of (amount_of a q) (amount_of b q) is
    agree q false isnt none = true_false (differ_at a b q) (ap not isnt) none

-- a side doesn't differ from itself
pub no_differences_from_itself : (a : Amounts) → differences a a ≡ []
no_differences_from_itself a = sym (differences_are a a [] _ (λ q. sym (ap not (same_number _))))

-- once the first of them has the other side's amount, the others are left
pub differences_left : (a b : Amounts) (k : ℕ) (ks : List ℕ) → differences a b ≡ k ∷ ks
    → differences (with_amount a k (amount_of b k)) b ≡ ks
differences_left a b k ks is = sym (differences_are (with_amount a k (amount_of b k)) b ks rise.1
    (λ q. by_test q (q == k) refl))
  where
    rise : Rise (k ∷ ks)
    rise = subst Rise is (differences_rise a b)

    by_test : (q : ℕ) (here : Bool) → (q == k) ≡ here
        → is_in q ks ≡ differ_at (with_amount a k (amount_of b k)) b q
    by_test q true here =
        let at : q ≡ k = same_of q k here in
        not_among k q ks rise.0 (omega (arith, at))
        ∙ sym (ap not (is_same (amount_of (with_amount a k (amount_of b k)) q) (amount_of b q)
        (cc (amount_of-with_amount a k (amount_of b k) q))))
    by_test q false other =
        cc (flipped q k other, among_differences a b q, amount_of-with_amount a k (amount_of b k) q)
