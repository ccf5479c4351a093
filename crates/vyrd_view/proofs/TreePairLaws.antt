-- The places of a tree.
use Rattle.vyrd_view.proofs.Prelude.{◌≡◌, ℕ, ◌+◌, ◌*◌, ◌<◌, Bool, false, List, length, map, get_or}
use Rattle.vyrd_view.proofs.Prelude.{arith, numbers_below, same_of, apart_of, is_same, isnt_same}
use Rattle.vyrd_view.proofs.Prelude.{node_pair, end_pair, tree_pair, is_on_chain, is_broken}
use Rattle.vyrd_view.proofs.PlacedLaws.{mapped}

pub tree_pair_end : (size : ℕ) (words : List ℕ) → tree_pair size words (4 * size)
    ≡ end_pair (is_broken size words)
tree_pair_end size words = grind (arith, is_same)

pub tree_pair_node : (size : ℕ) (words : List ℕ) (marks : List Bool) (m : ℕ) → m < 4 * size
    → ((n : ℕ) → n < size → get_or marks n false ≡ is_on_chain size words n)
    → tree_pair size words m ≡ node_pair words marks m
tree_pair_node size words marks m low marked = grind (arith, marked, isnt_same)

-- pairs whose nodes and end are up to date
pub tree_pairs : (size : ℕ) (words : List ℕ) (marks : List Bool) (pairs : List (ℕ × ℕ))
    → length pairs ≡ 4 * size + 1
    → ((n : ℕ) → n < size → get_or marks n false ≡ is_on_chain size words n)
    → ((m : ℕ) → m < 4 * size → get_or pairs m (0, 0) ≡ node_pair words marks m)
    → get_or pairs (4 * size) (0, 0) ≡ end_pair (is_broken size words)
    → pairs ≡ map (tree_pair size words) (numbers_below (4 * size + 1))
tree_pairs size words marks pairs count marked nodes end =
    grind (arith, count, marked, mapped, same_of, tree_pair_end, apart_of, tree_pair_node)
