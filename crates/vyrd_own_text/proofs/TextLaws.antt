-- The pieces of a line.
use Rattle.vyrd_own_text.proofs.Prelude
use Prelude.{◌≡◌, ℕ, ◌<◌, Bool, true, false, cond, List, [], ◌∷◌, ◌++◌, Some, None, refl, ap, ◌∙◌}
use Prelude.{sym, arith, nat_lt, decimal, ◌==◌, ◌&&◌, bytes_eq, digits_value, nat_tests}
use Prelude.{bytes_eq-Decides, number_of_decimal, most, after, number_in}

same_test : (c : ℕ) → (c == c) ≡ true
same_test c = grind (arith, nat_tests)

-- a word and what follows it
pub after_is : (word rest text : List ℕ) → text ≡ word ++ rest → after word text ≡ Some rest
unfolding after
after_is word rest text e = rw e (front word rest)
  where
    front : (word rest : List ℕ) → after word (word ++ rest) ≡ Some rest
    front [] rest = refl
    front (c ∷ word) rest = cc (same_test c, front word rest)

pub after_none : (word text : List ℕ) → ((rest : List ℕ) → text ≡ word ++ rest → ⊥)
    → after word text ≡ None
unfolding after
after_none [] text isnt = absurd (isnt text refl)
after_none (c ∷ word) [] isnt = refl
after_none (c ∷ word) (b ∷ text) isnt = by_test (after_none word text) (c == b) refl
  where
    by_test : (((rest : List ℕ) → text ≡ word ++ rest → ⊥) → after word text ≡ None) → (t : Bool)
        → (c == b) ≡ t → cond t (after word text) None ≡ None
    by_test more false e = refl
    by_test more true e = grind arith

-- numbers
pub number_is : (word : List ℕ) (n : ℕ) → n < most → word ≡ decimal n → number_in word ≡ Some n
unfolding number_in
number_is word n small e =
    let value : digits_value 10 word ≡ n = ap (digits_value 10) e
    ∙ number_of_decimal n (omega arith) in
    let less : nat_lt n most ≡ true = grind (arith, nat_tests) in
    let same : bytes_eq (decimal n) word ≡ true = (bytes_eq-Decides (decimal n) word).1 (sym e) in
    rw (value, less, same) refl

pub number_isnt : (word : List ℕ) → ((n : ℕ) → n < most → word ≡ decimal n → ⊥) → number_in word
    ≡ None
unfolding number_in
number_isnt word none = by_test (nat_lt _ _) (bytes_eq (decimal _) word) refl refl
  where
    n : ℕ
    n = digits_value 10 word

    by_test : (a b : Bool) → nat_lt n most ≡ a → bytes_eq (decimal n) word ≡ b
        → cond (a && b) (Some n) None ≡ None
    by_test false b ea eb = refl
    by_test true false ea eb = refl
    by_test true true ea eb = absurd
        (none n (grind (arith, nat_tests)) (sym ((bytes_eq-Decides _ _).0 eb)))
