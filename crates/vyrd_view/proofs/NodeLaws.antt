-- The four places of a node.
use Rattle.vyrd_view.proofs.Prelude.{◌≡◌, ℕ, zero, suc, ◌+◌, ◌*◌, ◌/◌, ◌<◌, ◌≤◌, Bool, true, false}
use Rattle.vyrd_view.proofs.Prelude.{List, [], ◌∷◌, length, get_or, arith, ◌==◌, same_of}
use Rattle.vyrd_view.proofs.Prelude.{entry_pair, node_pair, is_stale}

stale_rest : (marks : List Bool) (part word : ℕ) (left : List ℕ) → (word / 12 == part) ≡ false
    → is_stale marks part left ≡ false → is_stale marks part (word ∷ left) ≡ false
stale_rest marks part word left apart rest = cc

-- the places of the nodes that aren't stale are up to date
abbrev pub AreNodesFresh : ℕ → List ℕ → List Bool → List (ℕ × ℕ) → List ℕ → Type 0
AreNodesFresh size words marks pairs left =
    (m : ℕ) → m < 4 * size → is_stale marks (m / 4) left ≡ false → get_or pairs m (0, 0)
    ≡ node_pair words marks m

-- one word less is left, of a node that isn't marked
pub fresh_unmarked : (size : ℕ) (words : List ℕ) (marks : List Bool) (pairs : List (ℕ × ℕ))
    (word : ℕ) (left : List ℕ) → get_or marks (word / 12) false ≡ false
    → AreNodesFresh size words marks pairs (word ∷ left) → AreNodesFresh size words marks pairs left
fresh_unmarked size words marks pairs word left unmarked fresh = grind arith

-- one word less is left, of a node that is marked, whose places are written
pub fresh_marked : (size : ℕ) (words : List ℕ) (marks : List Bool) (pairs now : List (ℕ × ℕ))
    (word : ℕ) (left : List ℕ) → get_or marks (word / 12) false ≡ true
    → ((m : ℕ) → m < 4 * (word / 12) → get_or now m (0, 0) ≡ get_or pairs m (0, 0))
    → ((j : ℕ) → j < 4
    → get_or now (4 * (word / 12) + j) (0, 0) ≡ entry_pair words (word / 12) j)
    → ((m : ℕ) → 4 * (word / 12) + 4 ≤ m → get_or now m (0, 0) ≡ get_or pairs m (0, 0))
    → AreNodesFresh size words marks pairs (word ∷ left) → AreNodesFresh size words marks now left
fresh_marked size words marks pairs now word left marked below inside above fresh = search
    (same_of, stale_rest, arith)

-- a marked node is within the marks
pub marked_within : (marks : List Bool) (n : ℕ) → get_or marks n false ≡ true → n < length marks
marked_within [] n e = cc
marked_within (x ∷ marks) zero e = omega arith
marked_within (x ∷ marks) (suc n) e = omega (arith, marked_within marks n e)
