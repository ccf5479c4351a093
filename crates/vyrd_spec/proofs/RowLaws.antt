-- Tests of the numbers in a row, and what is given by each of them.
use Rattle.vyrd_spec.proofs.Prelude.{◌≡◌, ◌≢◌, ℕ, zero, suc, ◌+◌, ◌-◌, ◌<◌, ◌≤◌, Bool, true, false}
use Rattle.vyrd_spec.proofs.Prelude.{cond, ◌&&◌, List, [], ◌∷◌, ◌++◌, map, Option, Some, None, refl}
use Rattle.vyrd_spec.proofs.Prelude.{ap, ◌∙◌, arith, ◌==◌, find, count_by, is_some, option_or}
use Rattle.vyrd_spec.proofs.Prelude.{list_all, numbers_from, numbers_below, numbers_below-push}
use Rattle.vyrd_spec.proofs.Prelude.{both_true, same_of, apart_of}
use Rattle.std.proofs.lemmas.List.Folds.{list_all-append, find-append}
use Rattle.std.proofs.lemmas.List.Sums.{sum_by-append}
use Rattle.vyrd_base.proofs.PlaceLaws.{pass_all}

-- one number more that passes
pub passes_more : (p : ℕ → Bool) (n : ℕ) → list_all p (numbers_below n) ≡ true → p n ≡ true
    → list_all p (numbers_below (n + 1)) ≡ true
passes_more p n all here = ap (list_all p) (numbers_below-push n)
    ∙ list_all-append p (numbers_below n) (n ∷ [])
    ∙ both_true (list_all p (numbers_below n)) (p n && true) all (both_true (p n) true here refl)

-- a number that doesn't pass
fails_from : (p : ℕ → Bool) (k n i : ℕ) → k ≤ i → i < k + n → p i ≡ false
    → list_all p (numbers_from k n) ≡ false
fails_from p k zero i from to fails = absurd (omega (arith, from, to))
fails_from p k (suc n) i from to fails = by_place (k == i) refl (p k) refl
    (λ apart. fails_from p (k + 1) n i (omega arith) (omega arith) fails)
  where
    by_place : (b : Bool) → (k == i) ≡ b → (c : Bool) → p k ≡ c
        → (k ≢ i → list_all p (numbers_from (k + 1) n) ≡ false)
        → (p k && list_all p (numbers_from (k + 1) n)) ≡ false
    by_place b e c here later = search (here, same_of, apart_of, arith)

pub one_fails : (p : ℕ → Bool) (n i : ℕ) → i < n → p i ≡ false → list_all p (numbers_below n)
    ≡ false
one_fails p n i low fails = fails_from p 0 n i (omega arith) (omega arith) fails

-- each number passes where all do
pub each_passes : (p : ℕ → Bool) (n i : ℕ) → list_all p (numbers_below n) ≡ true → i < n
    → p i ≡ true
each_passes p n i all low = by_test (p i) refl
  where
    by_test : (b : Bool) → p i ≡ b → p i ≡ true
    by_test true e = e
    by_test false e = let fails = one_fails p n i low e in cc

-- one value more
pub map-push : {A : Type 0} (f : ℕ → A) (n : ℕ) → map f (numbers_below (n + 1))
    ≡ map f (numbers_below n) ++ f n ∷ []
map-push f n = ap (map f) (numbers_below-push n) ∙ map_append (numbers_below n)
  where
    map_append : (ks : List ℕ) → map f (ks ++ n ∷ []) ≡ map f ks ++ f n ∷ []
    map_append [] = refl
    map_append (k ∷ ks) = ap (λ xs. f k ∷ xs) (map_append ks)

-- all pass where each does
pub all_pass : (p : ℕ → Bool) (n : ℕ) → ((i : ℕ) → i < n → p i ≡ true)
    → list_all p (numbers_below n) ≡ true
all_pass p n each = pass_all p 0 n (λ i from to. each i (omega arith))

-- how many pass, with one number more
abbrev counted : (ℕ → Bool) → ℕ → ℕ
counted p i = cond (p i) 1 0

pub count-push : (p : ℕ → Bool) (n : ℕ) → count_by p (numbers_below (n + 1))
    ≡ count_by p (numbers_below n) + cond (p n) 1 0
count-push p n =
    grind (arith, numbers_below-push n, sum_by-append (counted p) (numbers_below n) (n ∷ []))

count-cons : (p : ℕ → Bool) (k n : ℕ) → count_by p (numbers_from k (suc n)) ≡ cond (p k) 1 0
    + count_by p (numbers_from (k + 1) n)
count-cons p k n = grind (arith, sum_by-append (counted p) (k ∷ []) (numbers_from (k + 1) n))

-- no fewer pass of more numbers
count_grows_by : (p : ℕ → Bool) (n k : ℕ) → count_by p (numbers_below n)
    ≤ count_by p (numbers_below (n + k))
count_grows_by p n zero = grind arith
count_grows_by p n (suc k) = grind (arith, count_grows_by p n k, count-push p (n + k))

pub count_grows : (p : ℕ → Bool) (n m : ℕ) → n ≤ m → count_by p (numbers_below n)
    ≤ count_by p (numbers_below m)
count_grows p n m le = grind (arith, count_grows_by p n (m - n))

-- the first that passes, with one number more
pub find-push : (p : ℕ → Bool) (n : ℕ) → find p (numbers_below (n + 1))
    ≡ option_or (find p (numbers_below n)) (cond (p n) (Some n) None)
find-push p n = ap (find p) (numbers_below-push n) ∙ find-append p (numbers_below n) (n ∷ [])

-- what is found is one of the numbers, and passes
found_from : (p : ℕ → Bool) (k n i : ℕ) → find p (numbers_from k n) ≡ Some i → (p i ≡ true)
    × (k ≤ i) × (i < k + n)
found_from p k zero i e = cc
found_from p k (suc n) i e = by_first (p k) refl e (found_from p (k + 1) n i)
  where
    by_first : (b : Bool) → p k ≡ b → cond b (Some k) (find p (numbers_from (k + 1) n)) ≡ Some i
        → (find p (numbers_from (k + 1) n) ≡ Some i → (p i ≡ true) × (k + 1 ≤ i) × (i < k + 1 + n))
        → (p i ≡ true) × (k ≤ i) × (i < k + suc n)
    by_first b here e later = search (here, arith)

pub found_below : (p : ℕ → Bool) (n i : ℕ) → find p (numbers_below n) ≡ Some i → (p i ≡ true)
    × (i < n)
found_below p n i e = let found = found_from p 0 n i e in (found.0, omega (arith, found.2))

-- none of the numbers passes where none is found, and some does where one is
none_counted : (p : ℕ → Bool) (k n : ℕ) → find p (numbers_from k n) ≡ None
    → count_by p (numbers_from k n) ≡ 0
none_counted p k zero e = refl
none_counted p k (suc n) e = by_first (p k) refl e (none_counted p (k + 1) n)
  where
    by_first : (b : Bool) → p k ≡ b → cond b (Some k) (find p (numbers_from (k + 1) n)) ≡ None
        → (find p (numbers_from (k + 1) n) ≡ None → count_by p (numbers_from (k + 1) n) ≡ 0)
        → count_by p (numbers_from k (suc n)) ≡ 0
    by_first b here e later = search (here, count-cons, arith)

pub none_found : (p : ℕ → Bool) (n : ℕ) → find p (numbers_below n) ≡ None
    → count_by p (numbers_below n) ≡ 0
none_found p n e = none_counted p 0 n e

one_counted : (p : ℕ → Bool) (k n : ℕ) → is_some (find p (numbers_from k n)) ≡ true
    → 1 ≤ count_by p (numbers_from k n)
one_counted p k zero e = cc
one_counted p k (suc n) e = by_first (p k) refl e (one_counted p (k + 1) n)
  where
    by_first : (b : Bool) → p k ≡ b → is_some (cond b (Some k) (find p (numbers_from (k + 1) n)))
        ≡ true
        → (is_some (find p (numbers_from (k + 1) n)) ≡ true
        → 1 ≤ count_by p (numbers_from (k + 1) n))
        → 1 ≤ count_by p (numbers_from k (suc n))
    by_first b here e later = search (here, count-cons, arith)

pub some_found : (p : ℕ → Bool) (n : ℕ) → is_some (find p (numbers_below n)) ≡ true
    → 1 ≤ count_by p (numbers_below n)
some_found p n e = one_counted p 0 n e

pub count_at_most : (p : ℕ → Bool) (n : ℕ) → count_by p (numbers_below n) ≤ n
count_at_most p zero = omega arith
count_at_most p (suc n) = grind (arith, count_at_most p n, count-push p n, one_at_most (p n))
  where
    one_at_most : (b : Bool) → cond {A = ℕ} b 1 0 ≤ 1
    one_at_most b = search arith

-- one number more that passes, and one that doesn't
pub counted_one : (p : ℕ → Bool) (n m : ℕ) → p n ≡ true → m ≡ count_by p (numbers_below n)
    → m + 1 ≡ count_by p (numbers_below (n + 1))
counted_one p n m here is = omega (arith, is, count-push p n, ap (λ b. cond {A = ℕ} b 1 0) here)

pub counted_none : (p : ℕ → Bool) (n m : ℕ) → p n ≡ false → m ≡ count_by p (numbers_below n)
    → m ≡ count_by p (numbers_below (n + 1))
counted_none p n m here is = omega (arith, is, count-push p n, ap (λ b. cond {A = ℕ} b 1 0) here)

-- if at most one passes, each that passes is the one that is found
pub only_found : (p : ℕ → Bool) (m n : ℕ) → count_by p (numbers_below m) ≤ 1 → n < m → p n ≡ true
    → find p (numbers_below m) ≡ Some n
only_found p zero n one low here = absurd (omega (arith, low))
only_found p (suc m) n one low here =
    let e : suc m ≡ m + 1 = omega arith in
    let grown : count_by p (numbers_below (m + 1))
    ≤ 1 = omega (arith, one, ap (λ k. count_by p (numbers_below k)) e) in
    cc (
      find-push p m,
      by_place (m == n) refl grown
          (λ lower fewer. only_found p m n fewer lower here),
    )
  where
    by_place : (b : Bool) → (m == n) ≡ b → count_by p (numbers_below (m + 1)) ≤ 1
        → (n < m → count_by p (numbers_below m) ≤ 1 → find p (numbers_below m) ≡ Some n)
        → option_or (find p (numbers_below m)) (cond (p m) (Some m) None) ≡ Some n
    by_place true f few later = by_found (find p _) refl (same_of m n f) few
      where
        by_found : (o : Option ℕ) → find p (numbers_below m) ≡ o → m ≡ n
            → count_by p (numbers_below (m + 1)) ≤ 1
            → option_or (find p (numbers_below m)) (cond (p m) (Some m) None) ≡ Some n
        by_found o g same few' = search (count-push, some_found, is_some, arith)
    by_place false f few later = search (apart_of, count_grows, arith)
