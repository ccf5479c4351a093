-- What is kept of a tree: its nodes on the chain of leaves, and what each of its places gives.
use Rattle.std.specs.Prelude.{◌≡◌, ℕ, Bool, false, ◌+◌, ◌*◌, ◌<◌, ◌≤◌, List, length, map}
use Rattle.std.specs.Prelude.{slice_index_or}
use Rattle.vyrd_base.specs.Places.{numbers_below}
use Rattle.vyrd_view.specs.Chains.{tree_pair, is_on_chain}

-- a mark for each node, and room for as many again
pub record HasNodes (words : List ℕ) (marks next : List Bool) : Type 0 where
  pub some : 0 < length marks
  pub few : length marks ≤ 1024
  pub count : length words ≡ 12 * length marks + 2
  pub room : length next ≡ length marks

-- what is kept is that of these words: the nodes on the chain of leaves are marked, and no others
-- are
pub record IsWalked (words : List ℕ) (pairs : List (ℕ × ℕ)) (marks : List Bool) : Type 0 where
  pub given : pairs
      ≡ map (tree_pair (length marks) words) (numbers_below (4 * length marks + 1))
  pub marked : (n : ℕ) → n < length marks
      → slice_index_or marks n false ≡ is_on_chain (length marks) words n
