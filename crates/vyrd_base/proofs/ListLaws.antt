-- Lists that a loop builds, one element more, lists with one element changed, and options with and
-- without a value.
use Rattle.vyrd_base.proofs.Prelude
use Prelude.{◌≡◌, ℕ, zero, suc, ◌+◌, ◌<◌, false, List, [], ◌∷◌, ◌++◌, length, take, drop, set}
use Prelude.{slice_get, Option, Some, None, refl, ap, ◌∙◌, sym, arith, take_more, slice_get_within}
use Prelude.{slice_get-get_or, get_or_from_slice_get, option_or, cons_option, AllByRecursion}
use Rattle.std.specs.Prelude.{filter_map, IsSome, get_or, replicate, is_some}

cons_front : {A : Type 0} (o : Option A) (xs ys : List A) → cons_option o (xs ++ ys)
    ≡ cons_option o xs ++ ys
cons_front o xs ys = search arith

-- what a function gives of one element more, if it gives something
pub filter_map_more : {A B : Type 0} (f : A → Option B) (xs : List A) (i : ℕ) (d : A)
    → i < length xs
    → filter_map f (take (i + 1) xs) ≡ filter_map f (take i xs) ++ cons_option (f (get_or xs i d))
    []
filter_map_more f [] i d low = absurd (omega (arith, low))
filter_map_more f (x ∷ xs) zero d low = refl
filter_map_more f (x ∷ xs) (suc i) d low =
    let e : suc i + 1 ≡ suc (i + 1) = omega arith in
    ap (λ n. filter_map f (take n (x ∷ xs))) e
    ∙ ap (cons_option (f x)) (filter_map_more f xs i d (omega arith))
    ∙ cons_front (f x) (filter_map f (take i xs)) (cons_option (f (get_or xs i d)) [])

-- nothing else is found
pub or_none : {A : Type 0} (o : Option A) → option_or o None ≡ o
or_none o = search arith

-- neither answers
pub both_none : {A : Type 0} (a b : Option A) → option_or a b ≡ None → (a ≡ None) × (b ≡ None)
both_none a b e = search arith

-- zeros alone
pub zeros : (n i : ℕ) → get_or (replicate n zero) i zero ≡ zero
zeros zero i = refl
zeros (suc n) zero = refl
zeros (suc n) (suc i) = zeros n i

-- the first element of what is left, and the element there of a list with one changed
pub slice_get-drop : {A : Type 0} (xs : List A) (n : ℕ) → slice_get (drop n xs) 0 ≡ slice_get xs n
slice_get-drop xs zero = refl
slice_get-drop [] (suc n) = refl
slice_get-drop (x ∷ xs) (suc n) = slice_get-drop xs n

pub slice_get-set_same : {A : Type 0} (xs : List A) (i : ℕ) (x : A) → i < length xs
    → slice_get (set xs i x) i ≡ Some x
slice_get-set_same [] i x within = absurd (omega arith)
slice_get-set_same (y ∷ xs) zero x within = refl
slice_get-set_same (y ∷ xs) (suc i) x within = slice_get-set_same xs i x (omega arith)

pub slice_get-set_other : {A : Type 0} (xs : List A) (i j : ℕ) (x : A) → (i ≡ j → ⊥)
    → slice_get (set xs i x) j ≡ slice_get xs j
slice_get-set_other [] i j x other = refl
slice_get-set_other (y ∷ xs) zero zero x other = absurd (other refl)
slice_get-set_other (y ∷ xs) zero (suc j) x other = refl
slice_get-set_other (y ∷ xs) (suc i) zero x other = refl
slice_get-set_other (y ∷ xs) (suc i) (suc j) x other = slice_get-set_other xs i j x
    (λ e. other (ap suc e))

-- one element at the end of a part of a list
pub take_one_more : {A : Type 0} (xs : List A) (n : ℕ) (x : A) → slice_get xs n ≡ Some x
    → take (n + 1) xs ≡ take n xs ++ x ∷ []
take_one_more xs n x here =
    cc (take_more xs n x (slice_get_within xs n x here), get_or_from_slice_get xs n x x here)

-- an option that has no value
pub is_none : {A : Type 0} (o : Option A) → ((x : A) → o ≡ Some x → ⊥) → o ≡ None
is_none o not = search arith

pub isnt_some : {A : Type 0} (o : Option A) → is_some o ≡ false → o ≡ None
isnt_some o e = search arith

pub none_isnt_some : {A : Type 0} (o : Option A) → o ≡ None → IsSome o → ⊥
none_isnt_some o e some = search arith

-- the last element of a list, and the element at a place within it
pub slice_get-last : {A : Type 0} (xs : List A) (x : A) → slice_get (xs ++ x ∷ []) (length xs)
    ≡ Some x
slice_get-last [] x = refl
slice_get-last (y ∷ xs) x = slice_get-last xs x

pub slice_get-is : {A : Type 0} (xs : List A) (i : ℕ) (x : A) → i < length xs → x ≡ get_or xs i x
    → slice_get xs i ≡ Some x
slice_get-is xs i x within is = slice_get-get_or xs i x within ∙ ap Some (sym is)

-- what holds of each element holds with one more of which it holds
pub all_push : {A : Type 0} (P : A → Type 0) (xs : List A) (x : A) → AllByRecursion P xs → P x
    → AllByRecursion P (xs ++ x ∷ [])
all_push P [] x all here = (here, tt)
all_push P (y ∷ xs) x all here = (all.0, all_push P xs x all.1 here)
