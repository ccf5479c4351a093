-- A list whose elements are changed one after the other.
use Rattle.std.proofs.Math.Seq.{take-append_seam}
use Rattle.std.proofs.Common.{◌≡◌, ℕ, zero, suc, ◌+◌, ◌<◌, ◌≤◌, List, [], ◌∷◌, ◌++◌, length, take}
use Rattle.std.proofs.Common.{map, set, get_or, refl, ap, ◌∙◌, sym, arith}

-- the list once its first n elements are changed
abbrev pub changed_below : {A : Type 0} → (A → A) → ℕ → List A → List A
changed_below f zero xs = xs
changed_below f (suc n) [] = []
changed_below f (suc n) (x ∷ xs) = f x ∷ changed_below f n xs

one_more : {A : Type 0} (f : A → A) (n : ℕ) (xs : List A) (d : A) → n < length xs
    → set (changed_below f n xs) n (f (get_or xs n d)) ≡ changed_below f (suc n) xs
one_more f zero [] d within = absurd (omega arith)
one_more f (suc n) [] d within = absurd (omega arith)
one_more f zero (x ∷ xs) d within = refl
one_more f (suc n) (x ∷ xs) d within = ap (λ ys. f x ∷ ys) (one_more f n xs d (omega arith))

-- the next element is still as it was
pub unchanged_at : {A : Type 0} (f : A → A) (n : ℕ) (xs : List A) (d : A)
    → get_or (changed_below f n xs) n d ≡ get_or xs n d
unchanged_at f zero xs d = refl
unchanged_at f (suc n) [] d = refl
unchanged_at f (suc n) (x ∷ xs) d = unchanged_at f n xs d

-- the next element is changed
pub changed_next : {A : Type 0} (f : A → A) (n : ℕ) (xs ys : List A) (d y : A) → n < length xs
    → ys ≡ changed_below f n xs → y ≡ f (get_or ys n d)
    → set ys n y ≡ changed_below f (n + 1) xs
changed_next f n xs ys d y within so_far is = search (unchanged_at, one_more, arith)

-- all elements are changed
pub changed_all : {A : Type 0} (f : A → A) (n : ℕ) (xs : List A) → length xs ≤ n
    → changed_below f n xs ≡ map f xs
changed_all f zero [] past = refl
changed_all f (suc n) [] past = refl
changed_all f zero (x ∷ xs) past = absurd (omega arith)
changed_all f (suc n) (x ∷ xs) past = ap (λ ys. f x ∷ ys) (changed_all f n xs (omega arith))

-- what is left once a whole slice of a vector was written
pub written_back : {A : Type 0} (n : ℕ) (new more : List A) → length new ≡ n → take n (new ++ more)
    ≡ new
written_back n new more long = ap (λ k. take k (new ++ more)) (sym long) ∙ take-append_seam new more
