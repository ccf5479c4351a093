-- The places of a list, each with what stands before it, the nearest first, and after it. So to
-- look back or ahead from a place is to take the first answer of a list.
use Rattle.std.specs.Prelude.{ℕ, suc, zero, ◌+◌, List, [], ◌∷◌, Option, None, length}
use Rattle.std.specs.Option.{option_or}

-- one place: what stands before it, the nearest first, what stands there, and what stands after it
pub record Place (A : Type 0) : Type 0 where
  pub earlier : List A
  pub here : A
  pub later : List A

-- the places of a list that follows on from earlier elements, the nearest of these first
abbrev pub places_after : {A : Type 0} → List A → List A → List (Place A)
places_after earlier [] = []
places_after earlier (x ∷ later) =
    record { earlier = earlier; here = x; later = later } ∷ places_after (x ∷ earlier) later

-- the places of a list, the first place first
abbrev pub places : {A : Type 0} → List A → List (Place A)
places xs = places_after [] xs

-- a place's number, from 0
abbrev pub position_of : {A : Type 0} → Place A → ℕ
position_of place = length place.earlier

-- the list the other way round, on top of earlier elements
abbrev pub newest_first_onto : {A : Type 0} → List A → List A → List A
newest_first_onto earlier [] = earlier
newest_first_onto earlier (x ∷ later) = newest_first_onto (x ∷ earlier) later

-- the list the other way round
abbrev pub newest_first : {A : Type 0} → List A → List A
newest_first xs = newest_first_onto [] xs

-- the first answer, from the front of the list
abbrev pub first_answer : {A B : Type 0} → (A → Option B) → List A → Option B
first_answer f [] = None
first_answer f (x ∷ xs) = option_or (f x) (first_answer f xs)

-- n numbers, from k on
abbrev pub numbers_from : ℕ → ℕ → List ℕ
numbers_from k zero = []
numbers_from k (suc n) = k ∷ numbers_from (k + 1) n

-- the numbers below n
abbrev pub numbers_below : ℕ → List ℕ
numbers_below n = numbers_from 0 n
