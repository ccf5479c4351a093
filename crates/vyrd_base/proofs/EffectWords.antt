-- The words that effects give, with one effect more.
use Rattle.vyrd_base.proofs.Prelude.{◌≡◌, ℕ, suc, zero, ◌+◌, ◌<◌, false, List, ◌∷◌, map, set, refl}
use Rattle.vyrd_base.proofs.Prelude.{ap, ◌∙◌, sym, arith, ◌==◌, Header, StartWord, numbers_from}
use Rattle.vyrd_base.proofs.Prelude.{words_with, is_same, lower_isnt, flipped}

-- a map over numbers that changes at one of them alone
map_same : (g new : ℕ → ℕ) (k n j : ℕ) → j < k → ((q : ℕ) → (j == q) ≡ false → new q ≡ g q)
    → map new (numbers_from k n) ≡ map g (numbers_from k n)
map_same g new k zero j low others = refl
map_same g new k (suc n) j low others =
    let here = others k (lower_isnt j k low) in
    let rest = map_same g new (k + 1) n j (omega (arith, low)) others in
    λ i. here i ∷ rest i

pub map_set : (g new : ℕ → ℕ) (k n i v : ℕ) → new (k + i) ≡ v
    → ((q : ℕ) → ((k + i) == q) ≡ false → new q ≡ g q)
    → map new (numbers_from k n) ≡ set (map g (numbers_from k n)) i v
map_set g new k zero i v at others = refl
map_set g new k (suc n) zero v at others = search (map_same, arith)
map_set g new k (suc n) (suc i) v at others =
    let there : k + suc i ≡ k + 1 + i = omega arith in
    let first = others k (flipped k _ (lower_isnt k _ (omega arith))) in
    let rest = map_set g new (k + 1) n i v (ap new (sym there) ∙ at) (λ q apart. others q (cc)) in
    λ j. first j ∷ rest j

-- one write more
pub one_write : (h : Header) (starting : List StartWord) (effects : List (ℕ × ℕ)) (w v : ℕ)
    → set (words_with h starting effects) w v ≡ words_with h starting ((w, v) ∷ effects)
one_write h starting effects w v = search (map_set, is_same, arith)
