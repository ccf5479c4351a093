-- The writes that are left, of those that take effect.
use Rattle.vyrd_shadow.proofs.Prelude.{◌≡◌, ℕ, List, [], ◌∷◌, ◌++◌, refl, set, with_writes}

-- writes in two parts
pub with_writes-append : (words : List ℕ) (xs ys : List (ℕ × ℕ)) → with_writes words (xs ++ ys)
    ≡ with_writes (with_writes words xs) ys
with_writes-append words [] ys = refl
with_writes-append words ((w, v) ∷ xs) ys = with_writes-append (set words w v) xs ys
