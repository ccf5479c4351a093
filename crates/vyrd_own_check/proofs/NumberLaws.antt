-- Numbers of lines, one after the other.
use Rattle.std.proofs.Common.{◌≡◌, ℕ, zero, suc, ◌+◌, ◌<◌, ◌≤◌, ◌^◌, cond, List, [], ◌∷◌, ◌++◌, map}
use Rattle.std.proofs.Common.{length, get_or, refl, ap, sym, ◌∙◌, arith}
use Rattle.std.specs.Prelude.{nat_le}
use Rattle.std.proofs.lemmas.List.{map-append, get_or_past}
use Rattle.vyrd_base.specs.Places.{numbers_below}
use Rattle.vyrd_base.proofs.PlaceLaws.{numbers_below-push, map_alike, element_below, length_below}
use Rattle.vyrd_base.proofs.TestLaws.{is_at_most, isnt_at_most, below_of, not_below_of}
use Rattle.vyrd_own_check.specs.declared.run.Run.{Run}
use Rattle.vyrd_own_check.specs.Numbers.{number_in, number_from, numbers_by, AreNumbers}

-- the last run, where it begins up to the place
pub number_last : (found place : ℕ) (runs : List Run) (i : ℕ) (d : Run) → i + 1 ≡ length runs
    → (get_or runs i d).place ≤ place
    → number_from found runs place ≡ number_in (get_or runs i d) place
number_last found place [] i d last low = absurd (omega (arith, last))
number_last found place (run ∷ []) zero d last low = cc (is_at_most run.place place low)
number_last found place (run ∷ []) (suc i) d last low = absurd (omega (arith, last))
number_last found place (run ∷ next ∷ runs) zero d last low = absurd (omega (arith, last))
number_last found place (run ∷ next ∷ runs) (suc i) d last low = number_last
    (cond (nat_le _ _) (number_in _ _) found) place (next ∷ runs) i d (omega (arith, last)) low

-- one run more
number_push : (found place : ℕ) (runs : List Run) (run : Run)
    → number_from found (runs ++ run ∷ []) place ≡ cond (nat_le run.place place)
    (number_in run place) (number_from found runs place)
number_push found place [] run = refl
number_push found place (x ∷ runs) run = number_push
    (cond (nat_le x.place place) (number_in x place) found) place runs run

pub number_before : (place : ℕ) (runs : List Run) (run : Run) → place < run.place
    → number_from 0 (runs ++ run ∷ []) place ≡ number_from 0 runs place
number_before place runs run low = grind (arith, number_push, isnt_at_most)

pub number_begun : (runs : List Run) (place line : ℕ)
    → number_from 0 (runs ++ record { place = place; line = line } ∷ []) place ≡ line
number_begun runs place line = grind (arith, number_push, is_at_most)

-- one number more
module _ (runs after : List Run) (count line : ℕ) (before : (place : ℕ) → place < count
    → number_from 0 after place ≡ number_from 0 runs place)
    (here : number_from 0 after count ≡ line) where
  pub numbers_more : numbers_by after (count + 1) ≡ numbers_by runs count ++ line ∷ []
  numbers_more = ap (map _) (numbers_below-push _) ∙ map-append (number_from 0 after)
      (numbers_below _) (count ∷ [])
      ∙ (λ i. map_alike (number_from 0 after) (number_from 0 runs) count before i ++ here i ∷ [])

  pub are_more : line < 2 ^ 64 → AreNumbers runs count → AreNumbers after (count + 1)
  are_more low all = search (below_of, not_below_of, arith)

-- the number at a place
pub number_there : (runs : List Run) (count place other : ℕ) → place < count
    → number_from 0 runs place ≡ get_or (numbers_by runs count) place other
number_there runs count place other low = search (element_below, count, arith)

pub number_past : (runs : List Run) (count place other : ℕ) → count ≤ place
    → other ≡ get_or (numbers_by runs count) place other
number_past runs count place other high =
    let all = length_below (number_from 0 runs) count in
    sym (get_or_past (numbers_by runs count) place other (omega (arith, all, high)))
