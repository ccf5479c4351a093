-- Proofs of laws that an impl in src/ names: no contract says what is defined here.
-- How many of the numbers in a row pass a test, and the first that does.
use Rattle.std.proofs.Common.{◌≡◌, ◌≢◌, ℕ, zero, suc, ◌+◌, ◌<◌, ◌≤◌, ◌⊎◌, Bool, true, false, cond}
use Rattle.std.proofs.Common.{List, [], ◌∷◌, Option, Some, None, refl, ap, ◌∙◌, sym, subst, arith}
use Rattle.std.specs.Prelude.{◌==◌, find, count_by}
use Rattle.std.proofs.lemmas.List.Recursion.{is_count_by}
use Rattle.vyrd_base.specs.Places.{numbers_from}
use Rattle.vyrd_base.proofs.TestLaws.{same_of, apart_of, is_same, isnt_same}

-- how many pass, by recursion
abbrev pub passing : (ℕ → Bool) → List ℕ → ℕ
passing p [] = 0
passing p (x ∷ xs) = cond (p x) (1 + passing p xs) (passing p xs)

pub count_is : (p : ℕ → Bool) (xs : List ℕ) → count_by p xs ≡ passing p xs
count_is p xs = sym (is_count_by (passing p) p refl (λ x xs. refl) xs)

pub le_or : (a b : ℕ) → (a ≤ b) ⊎ (b < a)
le_or a b = grind arith

pub zero_or : (a : ℕ) → (a ≡ 0) ⊎ (a ≢ 0)
zero_or a = grind arith

-- what passes one test passes the other
abbrev pub Implies : (ℕ → Bool) → (ℕ → Bool) → ℕ → ℕ → Type 0
Implies p q k n = (i : ℕ) → k ≤ i → i < k + n → p i ≡ true → q i ≡ true

pub passing_most : (p : ℕ → Bool) (k n : ℕ) → passing p (numbers_from k n) ≤ n
passing_most p k zero = omega arith
passing_most p k (suc n) = by_test (p k) (passing_most p (k + 1) n)
  where
    by_test : (b : Bool) → passing p (numbers_from (k + 1) n) ≤ n
        → cond b (1 + passing p (numbers_from (k + 1) n)) (passing p (numbers_from (k + 1) n))
        ≤ suc n
    by_test true low = omega arith
    by_test false low = omega arith

pub passing_fewer : (p q : ℕ → Bool) (k n : ℕ) → Implies p q k n
    → passing p (numbers_from k n) ≤ passing q (numbers_from k n)
passing_fewer p q k zero all = omega arith
passing_fewer p q k (suc n) all =
    by_tests (p k) (q k) refl refl
    (passing_fewer p q (k + 1) n (λ i from to pass. all i (omega arith) (omega arith) pass))
  where
    by_tests : (a b : Bool) → p k ≡ a → q k ≡ b
        → passing p (numbers_from (k + 1) n) ≤ passing q (numbers_from (k + 1) n)
        → cond a (1 + passing p (numbers_from (k + 1) n)) (passing p (numbers_from (k + 1) n))
        ≤ cond b (1 + passing q (numbers_from (k + 1) n)) (passing q (numbers_from (k + 1) n))
    by_tests true true e f low = omega arith
    by_tests true false e f low = let pass = all k (omega arith) (omega arith) e in cc
    by_tests false true e f low = omega arith
    by_tests false false e f low = low

-- one passes the second test alone
pub passing_less : (p q : ℕ → Bool) (k n i : ℕ) → Implies p q k n → k ≤ i → i < k + n → p i ≡ false
    → q i ≡ true
    → passing p (numbers_from k n) < passing q (numbers_from k n)
passing_less p q k zero i all from to fail pass = absurd (omega (arith, from, to))
passing_less p q k (suc n) i all from to fail pass =
    by_place (k == i) refl (passing_fewer p q (k + 1) n later)
    (λ apart. passing_less p q (k + 1) n i later (omega (arith, apart, from)) (omega (arith, to))
    fail pass)
  where
    later : Implies p q (k + 1) n
    later i from to pass = all i (omega arith) (omega arith) pass

    here : (a b : Bool) → p k ≡ a → q k ≡ b
        → passing p (numbers_from (k + 1) n) < passing q (numbers_from (k + 1) n)
        → cond a (1 + passing p (numbers_from (k + 1) n)) (passing p (numbers_from (k + 1) n))
        < cond b (1 + passing q (numbers_from (k + 1) n)) (passing q (numbers_from (k + 1) n))
    here true true e f low = omega arith
    here true false e f low = let pass = all k (omega arith) (omega arith) e in cc
    here false true e f low = omega arith
    here false false e f low = low

    by_place : (b : Bool) → (k == i) ≡ b
        → passing p (numbers_from (k + 1) n) ≤ passing q (numbers_from (k + 1) n)
        → (k ≢ i → passing p (numbers_from (k + 1) n) < passing q (numbers_from (k + 1) n))
        → passing p (numbers_from k (suc n)) < passing q (numbers_from k (suc n))
    by_place true e low less =
        let at : k ≡ i = same_of k i e in
        let fail' : p k ≡ false = ap p at ∙ fail in
        let pass' : q k ≡ true = ap q at ∙ pass in
        subst
        (λ a. cond a (1 + passing p (numbers_from (k + 1) n)) (passing p (numbers_from (k + 1) n))
        < passing q (numbers_from k (suc n))) (sym fail')
        (subst (λ b. passing p (numbers_from (k + 1) n)
        < cond b (1 + passing q (numbers_from (k + 1) n))
        (passing q (numbers_from (k + 1) n))) (sym pass') (omega arith))
    by_place false e low less = here (p k) (q k) refl refl (less (apart_of k i e))

-- two that pass are two
pub passing_two : (p : ℕ → Bool) (k n i j : ℕ) → k ≤ i → i < j → j < k + n → p i ≡ true → p j ≡ true
    → 2 ≤ passing p (numbers_from k n)
passing_two p k n i j from apart to pass pass' =
    omega (
      arith,
      passing_less none one k n i (λ a f t e. absurd (false_isnt e)) from (omega arith) refl
          (is_same i i refl),
      passing_less one p k n j one_of (omega arith) to (isnt_same j i (omega arith)) pass',
    )
  where
    none : ℕ → Bool
    none a = false

    one : ℕ → Bool
    one a = a == i

    false_isnt : false ≡ true → ⊥
    false_isnt e = cc

    one_of : Implies one p k n
    one_of a f t e = let at : a ≡ i = same_of a i e in ap p at ∙ pass

-- if all that pass are one and the same, at most one passes
pub passing_one : (p : ℕ → Bool) (k n : ℕ)
    → ((i j : ℕ) → k ≤ i → i < k + n → k ≤ j → j < k + n → p i ≡ true → p j ≡ true → i ≡ j)
    → passing p (numbers_from k n) ≤ 1
passing_one p k zero one = omega arith
passing_one p k (suc n) one =
    by_test (p k) refl (passing_one p (k + 1) n
    (λ i j a b c d. one i j (omega arith) (omega arith) (omega arith) (omega arith)))
  where
    none : p k ≡ true → passing p (numbers_from (k + 1) n) ≤ 0
    none pass = passing_none (k + 1) n (λ i from to pass'. let same =
        one k i (omega arith) (omega arith) (omega arith) (omega arith) pass pass' in omega arith)
      where
        passing_none : (k n : ℕ) → ((i : ℕ) → k ≤ i → i < k + n → p i ≡ true → ⊥)
            → passing p (numbers_from k n) ≤ 0
        passing_none k zero fail = omega arith
        passing_none k (suc n) fail = here (p k) refl
            (passing_none (k + 1) n (λ i from to pass. fail i (omega arith) (omega arith) pass))
          where
            here : (b : Bool) → p k ≡ b → passing p (numbers_from (k + 1) n) ≤ 0
                → cond b (1 + passing p (numbers_from (k + 1) n))
                (passing p (numbers_from (k + 1) n))
                ≤ 0
            here true e low = absurd (fail k (omega arith) (omega arith) e)
            here false e low = low

    by_test : (b : Bool) → p k ≡ b → passing p (numbers_from (k + 1) n) ≤ 1
        → cond b (1 + passing p (numbers_from (k + 1) n)) (passing p (numbers_from (k + 1) n)) ≤ 1
    by_test true e low = let fail = none e in omega arith
    by_test false e low = low

pub passing_some : (p : ℕ → Bool) (k n i : ℕ) → k ≤ i → i < k + n → p i ≡ true
    → 1 ≤ passing p (numbers_from k n)
passing_some p k n i from to pass = omega (
  arith,
  passing_less (λ a. false) p k n i (λ a f t e. absurd (false_isnt e)) from to refl pass,
)
  where
    false_isnt : false ≡ true → ⊥
    false_isnt e = cc

-- the first that passes
pub found_passes : (p : ℕ → Bool) (k n i : ℕ) → find p (numbers_from k n) ≡ Some i
    → (k ≤ i) × (i < k + n) × (p i ≡ true)
found_passes p k zero i e = cc
found_passes p k (suc n) i e = by_test (p k) refl e (found_passes p (k + 1) n i)
  where
    by_test : (b : Bool) → p k ≡ b → cond b (Some k) (find p (numbers_from (k + 1) n)) ≡ Some i
        → (find p (numbers_from (k + 1) n) ≡ Some i → (k + 1 ≤ i) × (i < k + 1 + n) × (p i ≡ true))
        → (k ≤ i) × (i < k + suc n) × (p i ≡ true)
    by_test true pass is later =
        let at : k ≡ i = cc in (omega arith, omega arith, sym (ap p at) ∙ pass)
    by_test false fail is later = let there = later is in (omega arith, omega arith, there.2)

pub none_passes : (p : ℕ → Bool) (k n : ℕ) → find p (numbers_from k n) ≡ None → (i : ℕ) → k ≤ i
    → i < k + n → p i ≡ false
none_passes p k zero e i from to = absurd (omega (arith, from, to))
none_passes p k (suc n) e i from to = by_test (p k) refl e (none_passes p (k + 1) n)
  where
    by_test : (b : Bool) → p k ≡ b
        → ◌≡◌ {A = Option ℕ} (cond b (Some k) (find p (numbers_from (k + 1) n))) None
        → (find p (numbers_from (k + 1) n) ≡ None → (i : ℕ) → k + 1 ≤ i → i < k + 1 + n
        → p i ≡ false)
        → p i ≡ false
    by_test true pass is later = cc
    by_test false fail is later = by_place (k == i) refl
      where
        by_place : (b : Bool) → (k == i) ≡ b → p i ≡ false
        by_place true at = sym (ap p (same_of k i at)) ∙ fail
        by_place false apart = let off = apart_of k i apart in
            later is i (omega (arith, off, from)) (omega (arith, to))

-- one that alone passes is found
pub found_is : (p : ℕ → Bool) (k n i : ℕ) → k ≤ i → i < k + n → p i ≡ true
    → ((j : ℕ) → k ≤ j → j < k + n → p j ≡ true → j ≡ i)
    → find p (numbers_from k n) ≡ Some i
found_is p k n i from to pass alone = by_found (find p (numbers_from k n)) refl
  where
    by_found : (o : Option ℕ) → find p (numbers_from k n) ≡ o → o ≡ Some i
    by_found None e = let fail = none_passes p k n e i from to in cc
    by_found (Some j) e =
        let there = found_passes p k n j e in ap Some (alone j there.0 there.1 there.2)

pub none_is : (p : ℕ → Bool) (k n : ℕ) → ((i : ℕ) → k ≤ i → i < k + n → p i ≡ true → ⊥)
    → find p (numbers_from k n) ≡ None
none_is p k n fail = by_found (find p (numbers_from k n)) refl
  where
    by_found : (o : Option ℕ) → find p (numbers_from k n) ≡ o → o ≡ None
    by_found None e = refl
    by_found (Some j) e =
        let there = found_passes p k n j e in absurd (fail j there.0 there.1 there.2)
