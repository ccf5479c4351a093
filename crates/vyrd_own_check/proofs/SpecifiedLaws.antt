-- A specification is read line by line.
use Rattle.vyrd_own_check.proofs.Prelude.{◌≡◌, ℕ, suc, zero, ◌+◌, ◌<◌, List, [], ◌∷◌, length, take}
use Rattle.vyrd_own_check.proofs.Prelude.{get_or, refl, arith, Vec, read_next, read_lines, texts}
use Rattle.vyrd_base.specs.Own.Reader.{SoFar}

-- one line more
pub read_more : (s : SoFar) (xs : List (Vec ℕ)) (i : ℕ) (d : Vec ℕ) → i < length xs
    → read_lines s (texts (take (i + 1) xs))
    ≡ (read_next (read_lines s (texts (take i xs))) (get_or xs i d).items).1
read_more s [] i d low = absurd (omega (arith, low))
read_more s (x ∷ xs) zero d low = refl
read_more s (x ∷ xs) (suc i) d low =
    grind (arith, read_more (read_next s x.items).1 xs i d (omega (arith, low)))
