-- How the places of a list, and the first answer in it, grow with the list.
use Rattle.vyrd_base.proofs.Prelude
use Prelude.{◌≡◌, ℕ, zero, suc, ◌+◌, ◌<◌, ◌≤◌, Bool, true, List, [], ◌∷◌, ◌++◌, length, map, get_or}
use Prelude.{Option, Some, None, refl, ap, ◌∙◌, arith, option_or, list_all, Place, places_after}
use Prelude.{first_answer, newest_first_onto, newest_first, numbers_from, numbers_below, both_true}

-- a place with more after it
abbrev pub with_later : {A : Type 0} → List A → Place A → Place A
with_later more place = record {
  earlier = place.earlier;
  here = place.here;
  later = place.later
      ++ more;
}

pub first_answer-append : {A B : Type 0} (f : A → Option B) (xs ys : List A)
    → first_answer f (xs ++ ys) ≡ option_or (first_answer f xs) (first_answer f ys)
first_answer-append f [] ys = refl
first_answer-append f (x ∷ xs) ys = elim (f x) as (λ o. option_or o (first_answer f (xs ++ ys))
    ≡ option_or (option_or o (first_answer f xs)) (first_answer f ys)) [
      | None ↦ first_answer-append f xs ys
      | Some b ↦ refl
    ]

pub places_after-append : {A : Type 0} (earlier xs ys : List A)
    → places_after earlier (xs ++ ys) ≡ map (with_later ys) (places_after earlier xs)
    ++ places_after (newest_first_onto earlier xs) ys
places_after-append earlier [] ys = refl
places_after-append earlier (x ∷ xs) ys = cc (places_after-append (x ∷ earlier) xs ys)

pub newest_first_onto-append : {A : Type 0} (earlier xs ys : List A)
    → newest_first_onto earlier (xs ++ ys) ≡ newest_first_onto (newest_first_onto earlier xs) ys
newest_first_onto-append earlier [] ys = refl
newest_first_onto-append earlier (x ∷ xs) ys = newest_first_onto-append (x ∷ earlier) xs ys

-- one more at the end is the newest
pub newest_first-push : {A : Type 0} (xs : List A) (x : A) → newest_first (xs ++ x ∷ []) ≡ x
    ∷ newest_first xs
newest_first-push xs x = newest_first_onto-append [] xs (x ∷ [])

-- turning a list leaves its length
pub length-newest_first_onto : {A : Type 0} (earlier xs : List A)
    → length (newest_first_onto earlier xs) ≡ length earlier + length xs
length-newest_first_onto earlier [] = omega arith
length-newest_first_onto earlier (x ∷ xs) = length-newest_first_onto (x ∷ earlier) xs ∙ omega arith

pub length-newest_first : {A : Type 0} (xs : List A) → length (newest_first xs) ≡ length xs
length-newest_first xs = length-newest_first_onto [] xs ∙ omega arith

-- one number more
pub numbers_from-push : (k n : ℕ) → numbers_from k (n + 1) ≡ numbers_from k n ++ (k + n) ∷ []
numbers_from-push k zero = let e : k + 0 ≡ k = omega arith in cc
numbers_from-push k (suc n) = grind (arith, numbers_from-push (k + 1) n)

pub numbers_below-push : (n : ℕ) → numbers_below (n + 1) ≡ numbers_below n ++ n ∷ []
numbers_below-push n = grind (arith, numbers_from-push 0 n)

-- a function's values at n numbers in a row are n
pub length-mapped : {A : Type 0} (f : ℕ → A) (k n : ℕ) → length (map f (numbers_from k n)) ≡ n
length-mapped f k zero = refl
length-mapped f k (suc n) = ap suc (length-mapped f (k + 1) n)

pub length_below : {A : Type 0} (f : ℕ → A) (n : ℕ) → length (map f (numbers_below n)) ≡ n
length_below f n = length-mapped f 0 n

-- two functions that agree at n numbers in a row
pub map_alike_from : {A : Type 0} (f g : ℕ → A) (k n : ℕ)
    → ((i : ℕ) → k ≤ i → i < k + n → f i ≡ g i) → map f (numbers_from k n)
    ≡ map g (numbers_from k n)
map_alike_from f g k zero same = refl
map_alike_from f g k (suc n) same =
    ap (λ x. x ∷ map f (numbers_from (k + 1) n)) (same k (omega arith) (omega arith))
    ∙ ap (λ xs. g k ∷ xs)
    (map_alike_from f g (k + 1) n (λ i from to. same i (omega arith) (omega arith)))

pub map_alike : {A : Type 0} (f g : ℕ → A) (n : ℕ) → ((i : ℕ) → i < n → f i ≡ g i)
    → map f (numbers_below n) ≡ map g (numbers_below n)
map_alike f g n same = map_alike_from f g 0 n (λ i from to. same i (omega arith))

-- a function's value at the number at a place
pub at_map : {A : Type 0} (f : ℕ → A) (k n i : ℕ) (d : A) → i < n
    → get_or (map f (numbers_from k n)) i d ≡ f (k + i)
at_map f k zero i d low = absurd (omega (arith, low))
at_map f k (suc n) zero d low = let here : k ≡ k + 0 = omega arith in ap f here
at_map f k (suc n) (suc i) d low = grind (arith, at_map f (k + 1) n i d (omega (arith, low)))

pub element_below : {A : Type 0} (f : ℕ → A) (n i : ℕ) (d : A) → i < n
    → get_or (map f (numbers_below n)) i d ≡ f i
element_below f n i d low = let there : 0 + i ≡ i = omega arith in at_map f 0 n i d low ∙ ap f there

-- a test that each number passes, all do
pub pass_all : (test : ℕ → Bool) (k n : ℕ) → ((i : ℕ) → k ≤ i → i < k + n → test i ≡ true)
    → list_all test (numbers_from k n) ≡ true
pass_all test k zero each = refl
pass_all test k (suc n) each =
    both_true (test k) (list_all test (numbers_from (k + 1) n)) (each k (omega arith) (omega arith))
    (pass_all test (k + 1) n (λ i from to. each i (omega arith) (omega arith)))
