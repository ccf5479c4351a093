-- The first of the keys whose values pass a test.
use Rattle.vyrd_table.proofs.Prelude
use Prelude.{◌≡◌, ℕ, ◌<◌, ◌≤◌, Bool, true, false, cond, List, [], ◌∷◌, Option, Some, None, refl, ap}
use Prelude.{◌∙◌, sym, subst, arith, T, min, ◌==◌, unwrap_or, nat_le, nat_cmp, is_lt, find}
use Prelude.{below_all, is_sorted, unsigned_tied, nat_tests, first_of_and, second_of_and, same_of}
use Prelude.{is_same, isnt_same, value_of, with_value, IsFirst, IsFirstOf, lesser}
use Rattle.vyrd_table.proofs.EntryLaws.{value_of-with_value}

is_greater : (k q : ℕ) → T (is_lt (nat_cmp k q)) → k < q
is_greater k q low = grind (arith, nat_tests)

-- the first of the keys that rise and pass
abbrev pub first_in : {V : Type 0} → (V → Bool) → List (ℕ × V) → Option ℕ
first_in test [] = None
first_in test (e ∷ s) = cond (test e.1) (Some e.0) (first_in test s)

module _ {V : Type 0} (nothing : V) (test : V → Bool) (plain : test nothing ≡ false) where
  -- no key at or below those that rise above it
  find_low : (k q : ℕ) (s : List (ℕ × V)) → T (below_all nat_cmp k s) → q ≤ k → find nat_cmp q s
      ≡ None
  find_low k q [] below low = refl
  find_low k q (e ∷ s) below low =
      let high : k < e.0 = is_greater k e.0 (first_of_and _ _ below) in
      ap (λ b. cond b (Some e.1) (find nat_cmp q s)) (unsigned_tied q e.0
      ∙ isnt_same q e.0 (omega (arith, high, low)))
      ∙ find_low k q s (second_of_and (is_lt (nat_cmp k e.0)) _ below) low

  value_cons : (e : ℕ × V) (s : List (ℕ × V)) (q : ℕ) → value_of nothing (e ∷ s) q
      ≡ cond (q == e.0) e.1 (value_of nothing s q)
  value_cons e s q = search arith

  pub first_is : (s : List (ℕ × V)) → T (is_sorted nat_cmp s)
      → IsFirst nothing test s (first_in test s)
  first_is [] rising = λ q. plain
  first_is (e ∷ s) rising = by_test (first_is s (second_of_and (below_all nat_cmp e.0 s) _ rising))
      (test e.1) refl
    where
      here : value_of nothing (e ∷ s) e.0 ≡ e.1
      here = cc (value_cons e s e.0, is_same e.0 e.0 refl)

      low : (q : ℕ) → q < e.0 → test (value_of nothing (e ∷ s) q) ≡ true → ⊥
      low q under passes = search (value_of, value_cons, isnt_same, find_low, first_of_and, arith)

      other : (q : ℕ) → test e.1 ≡ false → test (value_of nothing (e ∷ s) q)
          ≡ test (value_of nothing s q)
      other q fails = by_key (q == e.0) refl
        where
          by_key : (b : Bool) → (q == e.0) ≡ b → test (value_of nothing (e ∷ s) q)
              ≡ test (value_of nothing s q)
          by_key b is = search (value_cons, value_of, find_low, first_of_and, same_of, arith)

      by_rest : (o : Option ℕ) → IsFirst nothing test s o → test e.1 ≡ false
          → IsFirst nothing test (e ∷ s) o
      by_rest None first fails = λ q. other q fails ∙ first q
      by_rest (Some k) first fails = grind (arith, other k fails, first.0)

      by_test : IsFirst nothing test s (first_in test s) → (b : Bool) → test e.1 ≡ b
          → IsFirst nothing test (e ∷ s) (cond b (Some e.0) (first_in test s))
      by_test first true passes = (ap test here ∙ passes, λ q is. by_order q is (nat_le e.0 q) refl)
        where
          by_order : (q : ℕ) → test (value_of nothing (e ∷ s) q) ≡ true → (b : Bool) → nat_le e.0 q
              ≡ b → e.0 ≤ q
          by_order q is true high = grind (arith, nat_tests)
          by_order q is false under = absurd (low q (grind (arith, nat_tests)) is)
      by_test first false fails = by_rest (first_in test s) first fails

  -- ---- a key that comes

  module _ (is_nothing : V → Bool) (only : (v : V) → is_nothing v ≡ true → v ≡ nothing)
      (s : List (ℕ × V)) (k : ℕ) (v : V)
      (unseen : find nat_cmp k s ≡ None) where
    missing : test (value_of nothing s k) ≡ false
    missing = ap (λ o. test (unwrap_or o nothing)) unseen ∙ plain

    -- if its value fails, each key passes as before
    same_tests : test v ≡ false → (q : ℕ)
        → test (value_of nothing (cond (is_nothing v) s (with_value is_nothing s k v)) q)
        ≡ test (value_of nothing s q)
    same_tests fails q = by_nothing (is_nothing v)
      where
        by_key : (b : Bool) → (q == k) ≡ b → test (cond b v (value_of nothing s q))
            ≡ test (value_of nothing s q)
        by_key true is = fails ∙ sym missing
            ∙ ap (λ r. test (value_of nothing s r)) (sym (same_of q k is))
        by_key false is = refl

        by_nothing : (b : Bool) → test (value_of nothing (cond b s (with_value is_nothing s k v)) q)
            ≡ test (value_of nothing s q)
        by_nothing true = refl
        by_nothing false = ap test (value_of-with_value is_nothing nothing only s k v q)
            ∙ by_key (q == k) refl

    first_stays : test v ≡ false → (found : Option ℕ) → IsFirst nothing test s found
        → IsFirst nothing test (cond (is_nothing v) s (with_value is_nothing s k v)) found
    first_stays fails None first = λ q. same_tests fails q ∙ first q
    first_stays fails (Some f) first =
        (same_tests fails f ∙ first.0, λ q passes. first.1 q (sym (same_tests fails q) ∙ passes))

    -- and if it passes, it has its value
    new_values : test v ≡ true → (q : ℕ)
        → value_of nothing (cond (is_nothing v) s (with_value is_nothing s k v)) q
        ≡ cond (q == k) v (value_of nothing s q)
    new_values passes q = by_nothing (is_nothing v) refl
      where
        by_nothing : (b : Bool) → is_nothing v ≡ b
            → value_of nothing (cond b s (with_value is_nothing s k v)) q
            ≡ cond (q == k) v (value_of nothing s q)
        by_nothing true none = let no : test v ≡ false = ap test (only v none) ∙ plain in absurd cc
        by_nothing false some = value_of-with_value is_nothing nothing only s k v q

    at_key : test v ≡ true → (r : ℕ) → r ≡ k
        → test (value_of nothing (cond (is_nothing v) s (with_value is_nothing s k v)) r) ≡ true
    at_key passes r is =
        ap test (new_values passes r ∙ ap (λ b. cond b v (value_of nothing s r)) (is_same r k is))
        ∙ passes

    at_other : test v ≡ true → (r : ℕ) → (r == k) ≡ false
        → test (value_of nothing (cond (is_nothing v) s (with_value is_nothing s k v)) r)
        ≡ test (value_of nothing s r)
    at_other passes r isnt =
        ap test (new_values passes r ∙ ap (λ b. cond b v (value_of nothing s r)) isnt)

    first_comes : test v ≡ true → (found : Option ℕ) → IsFirst nothing test s found
        → IsFirst nothing test (cond (is_nothing v) s (with_value is_nothing s k v))
        (Some (lesser found k))
    first_comes passes None first = (at_key passes k refl, λ q is. by_key q is (q == k) refl)
      where
        by_key : (q : ℕ)
            → test (value_of nothing (cond (is_nothing v) s (with_value is_nothing s k v)) q) ≡ true
            → (b : Bool) → (q == k) ≡ b → k ≤ q
        by_key q is true same = let e : q ≡ k = same_of q k same in omega (arith, e)
        by_key q is false isnt = let no : test (value_of nothing s q) ≡ false = first q in
            let yes : test (value_of nothing s q) ≡ true = sym (at_other passes q isnt)
            ∙ is in absurd cc
    first_comes passes (Some f) first =
        (by_least (nat_le f k) refl, λ q is. by_key q is (q == k) refl)
      where
        by_least : (b : Bool) → nat_le f k ≡ b
            → test (value_of nothing (cond (is_nothing v) s (with_value is_nothing s k v))
            (min f k)) ≡ true
        by_least true low = by_same (f == k) refl
          where
            is : min f k ≡ f
            is = let le : f ≤ k = grind (arith, nat_tests) in omega (arith, le)

            by_same : (b : Bool) → (f == k) ≡ b
                → test (value_of nothing (cond (is_nothing v) s (with_value is_nothing s k v))
                (min f k)) ≡ true
            by_same true same = at_key passes (min f k) (is ∙ same_of f k same)
            by_same false isnt =
                ap (λ r. test
                (value_of nothing (cond (is_nothing v) s (with_value is_nothing s k v)) r)) is
                ∙ at_other passes f isnt ∙ first.0
        by_least false high =
            at_key passes (min f k) (let lt : k < f = grind (arith, nat_tests) in omega (arith, lt))

        by_key : (q : ℕ)
            → test (value_of nothing (cond (is_nothing v) s (with_value is_nothing s k v)) q) ≡ true
            → (b : Bool) → (q == k) ≡ b → min f k ≤ q
        by_key q is true same = let e : q ≡ k = same_of q k same in omega (arith, e)
        by_key q is false isnt = let low : f ≤ q = first.1 q (sym (at_other passes q isnt) ∙ is) in
            omega (arith, low)

    first_more : (found result : Option ℕ) → IsFirst nothing test s found
        → IsFirstOf test found (k, v) result
        → IsFirst nothing test (cond (is_nothing v) s (with_value is_nothing s k v)) result
    first_more found result first is =
        subst (IsFirst nothing test (cond (is_nothing v) s (with_value is_nothing s k v))) (sym is)
        (by_test (test v) refl)
      where
        by_test : (b : Bool) → test v ≡ b
            → IsFirst nothing test (cond (is_nothing v) s (with_value is_nothing s k v))
            (cond b (Some (lesser found k)) found)
        by_test true passes = first_comes passes found first
        by_test false fails = first_stays fails found first

  -- the place of a key that comes, whether it is taken or not
  pub first_next : (is_nothing : V → Bool) (only : (v : V) → is_nothing v ≡ true → v ≡ nothing)
      (s : List (ℕ × V)) (k : ℕ) (v : V)
      → (is_nothing v ≡ false → find nat_cmp k s ≡ None) → (found result : Option ℕ)
      → IsFirst nothing test s found → IsFirstOf test found (k, v) result
      → IsFirst nothing test (cond (is_nothing v) s (with_value is_nothing s k v)) result
  first_next is_nothing only s k v unseen found result first is = by_nothing (is_nothing v) refl
    where
      by_nothing : (b : Bool) → is_nothing v ≡ b
          → IsFirst nothing test (cond b s (with_value is_nothing s k v)) result
      by_nothing true none = grind arith
      by_nothing false some =
          subst (λ b. IsFirst nothing test (cond b s (with_value is_nothing s k v)) result) some
          (first_more is_nothing only s k v (unseen some) found result first is)
