-- The first place where two lists of amounts part is at the least key whose amounts differ.
use Rattle.vyrd_view.proofs.Prelude
use Prelude.{◌≡◌, ℕ, zero, suc, ◌+◌, ◌<◌, ◌≤◌, min, Bool, true, false, cond, ◌&&◌, T, [], ◌∷◌}
use Prelude.{Option, Some, None, length, get_or, drop, refl, ap, ◌∙◌, sym, subst, arith, drop-cons}
use Prelude.{◌==◌, ◌≢◌, nat_lt, slice_get, option_map, option_or, nat_cmp, is_lt, below_all}
use Prelude.{nat_tests, Amounts, IsAmounts, amount_of, first_difference, same_number, same_of}
use Prelude.{apart_of, lower_isnt, both_of, apart_from, first_of_and, second_of_and, IsLeastApart}
use Rattle.vyrd_base.proofs.DifferenceLaws.{first_difference_none, first_difference_some}

-- the lesser key at the first place where the lists differ
abbrev pub first_apart : Amounts → Amounts → Option ℕ
first_apart [] [] = None
first_apart (x ∷ xs) [] = Some x.0
first_apart [] (y ∷ ys) = Some y.0
first_apart (x ∷ xs) (y ∷ ys) = cond (x.0 == y.0 && x.1 == y.1) (first_apart xs ys)
    (Some (min x.0 y.0))

-- whether this is the least key whose amounts differ, or there is none
abbrev pub LeastApart : Amounts → Amounts → Option ℕ → Type 0
LeastApart a b o = IsLeastApart (amount_of a) (amount_of b) o

one_least : (a b : Amounts) (o p : Option ℕ) → LeastApart a b o → LeastApart a b p → o ≡ p
one_least a b o p f g = grind (arith, nat_tests)

difference_is_least : (a b : Amounts) → LeastApart a b (first_difference a b)
difference_is_least a b = grind (arith, first_difference_none, first_difference_some)

amount_of-cons : (x : ℕ × ℕ) (xs : Amounts) (q : ℕ) → amount_of (x ∷ xs) q ≡ cond (q == x.0) x.1
    (amount_of xs q)
amount_of-cons x xs q = grind arith

absent_below : (xs : Amounts) (k q : ℕ) → q ≤ k → T (below_all nat_cmp k xs) → amount_of xs q ≡ 0
absent_below [] k q le below = refl
absent_below (x ∷ xs) k q le below =
    amount_of-cons x xs q ∙ ap (λ b. cond b x.1 (amount_of xs q))
    (apart_from k q x.0 le (first_of_and _ _ below))
    ∙ absent_below xs k q le (second_of_and (is_lt (nat_cmp k x.0)) _ below)

at_head : (x : ℕ × ℕ) (xs : Amounts) → amount_of (x ∷ xs) x.0 ≡ x.1
at_head x xs = amount_of-cons x xs x.0 ∙ ap (λ b. cond b x.1 (amount_of xs x.0)) (same_number x.0)

below_head : (x : ℕ × ℕ) (xs : Amounts) (q : ℕ) → IsAmounts (x ∷ xs) → q < x.0
    → amount_of (x ∷ xs) q ≡ 0
below_head x xs q is low = grind (arith, amount_of-cons, lower_isnt, absent_below, first_of_and)

past_head : (x : ℕ × ℕ) (xs : Amounts) → IsAmounts (x ∷ xs) → amount_of xs x.0 ≡ 0
past_head x xs is = absent_below xs x.0 x.0 (omega arith) (first_of_and _ _ is.rising)

tail : (x : ℕ × ℕ) (xs : Amounts) → IsAmounts (x ∷ xs) → IsAmounts xs
tail x xs is = search (second_of_and, below_all, arith)

-- one more pair in front of both
with_same_head : (x y : ℕ × ℕ) (xs ys : Amounts) (o : Option ℕ) → x.0 ≡ y.0 → x.1 ≡ y.1
    → IsAmounts (x ∷ xs) → IsAmounts (y ∷ ys)
    → LeastApart xs ys o → LeastApart (x ∷ xs) (y ∷ ys) o
with_same_head x y xs ys o key amount is it e9 = search (past_head, amount_of-cons, arith)

-- two pairs in front that differ
lesser_head : (x y : ℕ × ℕ) (xs ys : Amounts) → IsAmounts (x ∷ xs) → IsAmounts (y ∷ ys) → x.0 < y.0
    → LeastApart (x ∷ xs) (y ∷ ys) (Some x.0)
lesser_head x y xs ys is it low = grind (arith, at_head, below_head)

greater_head : (x y : ℕ × ℕ) (xs ys : Amounts) → IsAmounts (x ∷ xs) → IsAmounts (y ∷ ys) → y.0 < x.0
    → LeastApart (x ∷ xs) (y ∷ ys) (Some y.0)
greater_head x y xs ys is it low = grind (arith, at_head, below_head)

same_key : (x y : ℕ × ℕ) (xs ys : Amounts) → IsAmounts (x ∷ xs) → IsAmounts (y ∷ ys) → x.0 ≡ y.0
    → x.1 ≢ y.1 → LeastApart (x ∷ xs) (y ∷ ys) (Some x.0)
same_key x y xs ys is it key apart = grind (arith, apart, at_head, below_head)

apart_heads : (x y : ℕ × ℕ) (xs ys : Amounts) → IsAmounts (x ∷ xs) → IsAmounts (y ∷ ys)
    → (x.0 == y.0 && x.1 == y.1) ≡ false
    → LeastApart (x ∷ xs) (y ∷ ys) (Some (min x.0 y.0))
apart_heads x y xs ys is it e = by_order (nat_lt x.0 y.0) (nat_lt y.0 x.0) refl refl
  where
    at : (k : ℕ) → min x.0 y.0 ≡ k → LeastApart (x ∷ xs) (y ∷ ys) (Some k)
        → LeastApart (x ∷ xs) (y ∷ ys) (Some (min x.0 y.0))
    at k is_k h = subst (λ n. LeastApart (x ∷ xs) (y ∷ ys) (Some n)) (sym is_k) h

    by_order : (s t : Bool) → nat_lt x.0 y.0 ≡ s → nat_lt y.0 x.0 ≡ t → LeastApart (x ∷ xs) (y ∷ ys)
        (Some (min x.0 y.0))
    by_order true t f g = let low : x.0 < y.0 = grind (arith, nat_tests) in at x.0 (omega arith)
        (lesser_head x y xs ys is it low)
    by_order false true f g = let low : y.0 < x.0 = grind (arith, nat_tests) in at y.0 (omega arith)
        (greater_head x y xs ys is it low)
    by_order false false f g =
        let key : x.0 ≡ y.0 = grind (arith, nat_tests) in
        let same : (x.0 == y.0) ≡ true = ap (λ n. x.0 == n) (sym key) ∙ same_number x.0 in
        let apart : (x.1 == y.1) ≡ false = sym (ap (λ b. b && x.1 == y.1) same) ∙ e in
        at x.0 (omega arith) (same_key x y xs ys is it key (apart_of x.1 y.1 apart))

apart_is_least : (a b : Amounts) → IsAmounts a → IsAmounts b → LeastApart a b (first_apart a b)
apart_is_least [] [] is it = λ q. refl
apart_is_least (x ∷ xs) [] is it = search (at_head, below_head, arith)
apart_is_least [] (y ∷ ys) is it = search (at_head, below_head, arith)
apart_is_least (x ∷ xs) (y ∷ ys) is it = by_test
    (apart_is_least xs ys (tail x xs is) (tail y ys it)) (x.0 == y.0 && x.1 == y.1) refl
  where
    by_test : LeastApart xs ys (first_apart xs ys) → (t : Bool) → (x.0 == y.0 && x.1 == y.1) ≡ t
        → LeastApart (x ∷ xs) (y ∷ ys) (cond t (first_apart xs ys) (Some (min x.0 y.0)))
    by_test rest true e = search (both_of, with_same_head, same_of, arith)
    by_test rest false e = apart_heads x y xs ys is it e

-- the least key that differs is where the lists part
pub first_difference-first_apart : (a b : Amounts) → IsAmounts a → IsAmounts b
    → first_difference a b ≡ first_apart a b
first_difference-first_apart a b is it = one_least a b (first_difference a b) (first_apart a b)
    (difference_is_least a b) (apart_is_least a b is it)

-- the lists from one place on
rest_from : (s : Amounts) (i : ℕ) (x : ℕ × ℕ) → i < length s → x ≡ get_or s i x → drop i s ≡ x
    ∷ drop (i + 1) s
rest_from s i x within is = grind (arith, drop-cons s i x within)

pub apart_here : (a b : Amounts) (i : ℕ) (x y : ℕ × ℕ) → i < length a → i < length b
    → x ≡ get_or a i x → y ≡ get_or b i y
    → (x.0 == y.0 && x.1 == y.1) ≡ false → first_apart (drop i a) (drop i b) ≡ Some (min x.0 y.0)
apart_here a b i x y in_a in_b is_x is_y apart = grind (arith, apart, rest_from)

-- if one list ends, the first pair that the other has left
pub apart_end : (a b : Amounts) (n : ℕ) → n ≡ min (length a) (length b)
    → first_apart (drop n a) (drop n b)
    ≡ option_or (option_map (λ pair. pair.0) (slice_get a (length b)))
    (option_map (λ pair. pair.0) (slice_get b (length a)))
apart_end [] [] n is = cc
apart_end (x ∷ a) [] n is = grind arith
apart_end [] (y ∷ b) n is = grind arith
apart_end (x ∷ a) (y ∷ b) zero is = absurd (omega arith)
apart_end (x ∷ a) (y ∷ b) (suc n) is = apart_end a b n (omega arith)

pub keys_apart : (x y : ℕ × ℕ) → x.0 ≢ y.0 → (x.0 == y.0 && x.1 == y.1) ≡ false
keys_apart x y apart = grind (arith, nat_tests)

pub amounts_apart : (x y : ℕ × ℕ) → x.1 ≢ y.1 → (x.0 == y.0 && x.1 == y.1) ≡ false
amounts_apart x y apart = grind (arith, nat_tests)

-- the same of lists that are those of two views
pub first_apart_of : (a b s t : Amounts) → IsAmounts a → IsAmounts b → s ≡ a → t ≡ b
    → first_apart s t ≡ first_difference a b
first_apart_of a b s t is it ours theirs = cc (first_difference-first_apart a b is it)

-- the least key at which two sides differ, of sides that are seen as functions
pub least_is_first : (f g : ℕ → ℕ) (a b : Amounts) (o : Option ℕ) → ((q : ℕ) → f q ≡ amount_of a q)
    → ((q : ℕ) → g q ≡ amount_of b q)
    → IsLeastApart f g o → o ≡ first_difference a b
least_is_first f g a b o left right least = search (one_least, difference_is_least, arith)
