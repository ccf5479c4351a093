-- Texts that are put one behind the other.
use Rattle.std.proofs.Common.{◌≡◌, ◌++◌, ◌∙◌, List, ℕ, ap, append_assoc}

pub two_behind : (t a b : List ℕ) → t ++ a ++ b ≡ t ++ (a ++ b)
two_behind t a b = append_assoc t a b

pub four_behind : (t a b c d : List ℕ) → t ++ a ++ b ++ c ++ d ≡ t ++ (a ++ b ++ c ++ d)
four_behind t a b c d = simp (append_assoc)

pub three_behind : (t a b c : List ℕ) → t ++ a ++ b ++ c ≡ t ++ (a ++ b ++ c)
three_behind t a b c = ap (λ xs. xs ++ c) (append_assoc t a b) ∙ append_assoc t (a ++ b) c
